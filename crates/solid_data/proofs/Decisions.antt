-- Statements of which it can be told whether they hold.
use Rattle.std.specs.Prelude.{◌≡◌, ℕ, ℤ, zero, suc, ◌+◌, ◌<◌, ◌≤◌, ◌⊎◌, Bool, true, false, List, [], ◌∷◌, length, Contains, Option, Some, None, IsSomeAnd}
use Rattle.std.specs.Prelude.{slice_get}
use Rattle.std.specs.Bool.{Decides}
use Rattle.std.specs.List.{AllByRecursion, AllZip}
use Rattle.std.proofs.Common.{refl, sym, ◌∙◌, ap, subst, arith, inl, inr, ⊎_elim, get_or}
use Rattle.std.proofs.lemmas.Bool.{cases_order}
use Rattle.std.proofs.lemmas.Bool.Decides.{Decides-eqb, Decides-int_eq, Decides-ltb}
use Rattle.std.proofs.lemmas.Option.{same_Some}

-- it holds, or it doesn't
abbrev pub Decided : Type 0 → Type 0
Decided P = P ⊎ (¬ P)

pub decided_alike : {P Q : Type 0} → (P → Q) → (Q → P) → Decided P → Decided Q
decided_alike to from (inl p) = inl (to p)
decided_alike to from (inr never) = inr (λ q. never (from q))

pub decided_by : {P : Type 0} → (b : Bool) → Decides b P → Decided P
decided_by true d = inl (d.0 refl)
decided_by false d = inr (λ p. let e : false ≡ true = d.1 p in cc)

pub decided_same : (m n : ℕ) → Decided (m ≡ n)
decided_same m n = decided_by _ (Decides-eqb m n)

pub decided_below : (m n : ℕ) → Decided (m < n)
decided_below m n = decided_by _ (Decides-ltb m n)

pub decided_within : (m n : ℕ) → Decided (m ≤ n)
decided_within m n = decided_alike (λ (h : m < suc n). omega (arith, h)) (λ (h : m ≤ n). omega (arith, h)) (decided_below m (suc n))

-- whether a value that may be missing is this one
pub decided_some : (found : Option ℕ) (n : ℕ) → Decided (found ≡ Some n)
decided_some None n = inr (λ e. cc)
decided_some (Some m) n = decided_alike (ap Some) (same_Some m n) (decided_same m n)

pub decided_int : (x y : ℤ) → Decided (x ≡ y)
decided_int x y = decided_by _ (Decides-int_eq x y)

pub decided_bool : (a b : Bool) → Decided (a ≡ b)
decided_bool true true = inl refl
decided_bool true false = inr (λ e. cc)
decided_bool false true = inr (λ e. cc)
decided_bool false false = inl refl

pub decided_both : {P Q : Type 0} → Decided P → Decided Q → Decided (P × Q)
decided_both (inl p) (inl q) = inl (p, q)
decided_both (inl p) (inr never) = inr (λ h. never h.1)
decided_both (inr never) q = inr (λ h. never h.0)

pub decided_pair : (p q : ℕ × ℕ) → Decided (p ≡ q)
decided_pair (a, b) (c, d) =
    decided_alike (λ (e : (a ≡ c) × (b ≡ d)). ap (λ (z : ℕ). (z, b)) e.0 ∙ ap (λ (z : ℕ). (c, z)) e.1)
    (λ (e : ◌≡◌ {A = ℕ × ℕ} (a, b) (c, d)). (ap (λ (z : ℕ × ℕ). z.0) e, ap (λ (z : ℕ × ℕ). z.1) e)) (decided_both (decided_same a c) (decided_same b d))

pub decided_three : {P Q R : Type 0} → Decided P → Decided Q → Decided R → Decided (P × Q × R)
decided_three p q r = decided_alike (λ (x, (y, z)). (x, y, z)) (λ (x, y, z). (x, (y, z))) (decided_both p (decided_both q r))

pub decided_four : {P Q R S : Type 0} → Decided P → Decided Q → Decided R → Decided S → Decided (P × Q × R × S)
decided_four p q r s = decided_alike (λ (x, (y, z, w)). (x, y, z, w)) (λ (x, y, z, w). (x, (y, z, w))) (decided_both p (decided_three q r s))

pub decided_either : {P Q : Type 0} → Decided P → Decided Q → Decided (P ⊎ Q)
decided_either (inl p) q = inl (inl p)
decided_either (inr never) (inl q) = inl (inr q)
decided_either (inr never) (inr neither) = inr (λ h. ⊎_elim never neither h)

pub decided_not : {P : Type 0} → Decided P → Decided (¬ P)
decided_not (inl p) = inr (λ never. never p)
decided_not (inr never) = inl never

pub decided_implies : {P Q : Type 0} → Decided P → Decided Q → Decided (P → Q)
decided_implies (inr never) q = inl (λ p. absurd (never p))
decided_implies (inl p) (inl q) = inl (λ x. q)
decided_implies (inl p) (inr never) = inr (λ h. never (h p))

-- whether a value that may be missing is there and such
pub decided_found : {A : Type 0} (found : Option A) (P : A → Type 0) → ((x : A) → Decided (P x)) → Decided ((x : A) × (found ≡ Some x) × P x)
decided_found None P each = inr (λ (x, e, p). cc)
decided_found (Some y) P each = decided_alike (λ p. (y, refl, p)) (λ (x, e, p). subst P (sym (same_Some y x e)) p) (each y)

pub decided_some_and : {A : Type 0} (found : Option A) (P : A → Type 0) → ((x : A) → Decided (P x)) → Decided (IsSomeAnd found P)
decided_some_and None P each = inr (λ h. h)
decided_some_and (Some x) P each = each x

-- whether one of the numbers below a bound is such
pub decided_bounded : (P : ℕ → Type 0) → ((n : ℕ) → Decided (P n)) → (bound : ℕ) → Decided ((n : ℕ) × (n < bound) × P n)
decided_bounded P each zero = inr (λ (n, lt, p). omega (arith, lt))
decided_bounded P each (suc bound) = by_last (each bound) (decided_bounded P each bound)
  where
    by_last : Decided (P bound) → Decided ((n : ℕ) × (n < bound) × P n) → Decided ((n : ℕ) × (n < suc bound) × P n)
    by_last (inl p) below = inl (bound, omega arith, p)
    by_last (inr never) (inl (n, lt, p)) = inl (n, omega (arith, lt), p)
    by_last (inr never) (inr none) = inr (λ (n, lt, p). ⊎_elim (λ e. never (subst P e p))
        (λ other. none (n, ⊎_elim (λ below. below) (λ above. absurd (omega (arith, lt, above))) other, p)) (cases_order n bound))

-- whether all numbers below a bound are such
pub decided_each : (P : ℕ → Type 0) → ((n : ℕ) → Decided (P n)) → (bound : ℕ) → Decided ((n : ℕ) → n < bound → P n)
decided_each P each bound = by_other (decided_bounded (λ n. ¬ P n) (λ n. decided_not (each n)) bound)
  where
    held : (n : ℕ) → ¬ ¬ P n → Decided (P n) → P n
    held n twice (inl p) = p
    held n twice (inr never) = absurd (twice never)

    by_other : Decided ((n : ℕ) × (n < bound) × ¬ P n) → Decided ((n : ℕ) → n < bound → P n)
    by_other (inl (n, lt, never)) = inr (λ all. never (all n lt))
    by_other (inr none) = inl (λ n lt. held n (λ never. none (n, lt, never)) (each n))

-- a number above those of all elements
abbrev pub above_all : {A : Type 0} → (A → ℕ) → List A → ℕ
above_all f [] = 0
above_all f (x ∷ xs) = suc (f x + above_all f xs)

pub below_all : {A : Type 0} (f : A → ℕ) (xs : List A) (i : ℕ) (x : A) → slice_get xs i ≡ Some x → f x < above_all f xs
below_all f [] i x e = absurd cc
below_all f (y ∷ ys) zero x e = let same : f y ≡ f x = ap f (same_Some y x e) in omega (arith, same)
below_all f (y ∷ ys) (suc i) x e = omega (arith, below_all f ys i x e)

pub decided_all : {A : Type 0} (P : A → Type 0) → ((x : A) → Decided (P x)) → (xs : List A) → Decided (AllByRecursion P xs)
decided_all P each [] = inl tt
decided_all P each (x ∷ xs) = decided_both (each x) (decided_all P each xs)

pub decided_zip : {A B : Type 0} (R : A → B → Type 0) → ((x : A) (y : B) → Decided (R x y)) → (xs : List A) (ys : List B) → Decided (AllZip R xs ys)
decided_zip R each [] [] = inl tt
decided_zip R each [] (y ∷ ys) = inr (λ h. h)
decided_zip R each (x ∷ xs) [] = inr (λ h. h)
decided_zip R each (x ∷ xs) (y ∷ ys) = decided_both (each x y) (decided_zip R each xs ys)

pub decided_contains : {A : Type 0} → ((x y : A) → Decided (x ≡ y)) → (xs : List A) (x : A) → Decided (Contains xs x)
decided_contains same xs x = decided_bounded (λ i. get_or xs i x ≡ x) (λ i. same (get_or xs i x) x) (length xs)

-- whether a list of at most so many numbers below a bound is such
pub decided_list : (P : List ℕ → Type 0) → ((ns : List ℕ) → Decided (P ns)) → (bound len : ℕ) →
    Decided ((ns : List ℕ) × (length ns ≤ len) × AllByRecursion (λ n. n < bound) ns × P ns)
decided_list P each bound zero = by_none (each [])
  where
    without : (ns : List ℕ) → length ns ≤ 0 → P ns → P []
    without [] few p = p
    without (n ∷ ns) few p = absurd (omega (arith, few))

    by_none : Decided (P []) → Decided ((ns : List ℕ) × (length ns ≤ 0) × AllByRecursion (λ n. n < bound) ns × P ns)
    by_none (inl p) = inl ([], omega arith, tt, p)
    by_none (inr never) = inr (λ (ns, few, below, p). never (without ns few p))
decided_list P each bound (suc len) = by_first (each []) (decided_bounded Later (λ n. decided_list (λ ns. P (n ∷ ns)) (λ ns. each (n ∷ ns)) bound len) bound)
  where
    Later : ℕ → Type 0
    Later n = (ns : List ℕ) × (length ns ≤ len) × AllByRecursion (λ n. n < bound) ns × P (n ∷ ns)

    neither : ¬ P [] → ¬ ((n : ℕ) × (n < bound) × Later n) → (ns : List ℕ) → length ns ≤ suc len → AllByRecursion (λ n. n < bound) ns → P ns → ⊥
    neither never none [] few below p = never p
    neither never none (n ∷ ns) few below p = none (n, below.0, (ns, omega (arith, few), below.1, p))

    by_first : Decided (P []) → Decided ((n : ℕ) × (n < bound) × Later n) →
        Decided ((ns : List ℕ) × (length ns ≤ suc len) × AllByRecursion (λ n. n < bound) ns × P ns)
    by_first (inl p) later = inl ([], omega arith, tt, p)
    by_first (inr never) (inl (n, lt, (ns, few, below, p))) = inl (n ∷ ns, omega (arith, few), (lt, below), p)
    by_first (inr never) (inr none) = inr (λ (ns, few, below, p). neither never none ns few below p)
