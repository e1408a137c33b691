-- Numbers that are read in order of appearance.
use Rattle.std.specs.Prelude.{◌≡◌, ◌<◌, ◌≤◌, ◌+◌, ◌-◌, ◌==◌, ◌&&◌, nat_lt, not, cond, ℕ, suc, Bool, true, false, List, [], ◌∷◌, ◌++◌, length, flat_map, filter, drop, Option, Some, None, slice_get, if◌then◌else◌}
use Rattle.std.proofs.Common.{refl, sym, ◌∙◌, ap, subst, arith}
use Rattle.std.proofs.lemmas.Bool.{false≢true, eqb-true, eq-eqb, ltb-true, ltb-false, lt-ltb, le-ltb}
use Rattle.std.proofs.lemmas.Option.{same_Some, none-some}
use Rattle.std.proofs.lemmas.List.{drop_all}
use Rattle.solid_data.specs.Numbering.{InOrderOfAppearance}
use Rattle.solid_data.specs.Ring.{distinct, numbers_from}
use Rattle.solid_data.proofs.Members.{split_at}
use Rattle.change_pieces.specs.Reading.{appeared, appeared_with, read_on}

pub appeared-append : (xs ys : List ℕ) (count : ℕ) → appeared (xs ++ ys) count ≡ read_on (appeared ys) (appeared xs count)
appeared-append [] ys count = refl
appeared-append (x ∷ xs) ys count = by_found (appeared_with count x) (λ more. appeared-append xs ys more)
  where
    by_found : (o : Option ℕ) → ((more : ℕ) → appeared (xs ++ ys) more ≡ read_on (appeared ys) (appeared xs more))
        → read_on (appeared (xs ++ ys)) o ≡ read_on (appeared ys) (read_on (appeared xs) o)
    by_found None rest = refl
    by_found (Some more) rest = rest more

-- one more item of a list, whose items tell numbers

pub appear_next : {A : Type 0} (f : A → List ℕ) (xs : List A) (i : ℕ) (x : A) (count more : ℕ) (all : Option ℕ) → slice_get xs i ≡ Some x
    → appeared (flat_map f (drop i xs)) count ≡ all → appeared (f x) count ≡ Some more → appeared (flat_map f (drop (i + 1) xs)) more ≡ all
appear_next f xs i x count more all at h e =
    sym (ap (read_on (appeared (flat_map f (drop (i + 1) xs)))) e)
    ∙ (sym (appeared-append (f x) (flat_map f (drop (i + 1) xs)) count) ∙ (sym (ap (λ ys. appeared (flat_map f ys) count) (split_at xs i x at)) ∙ h))

pub appear_none : {A : Type 0} (f : A → List ℕ) (xs : List A) (i : ℕ) (x : A) (count : ℕ) (all : Option ℕ) → slice_get xs i ≡ Some x
    → appeared (flat_map f (drop i xs)) count ≡ all → appeared (f x) count ≡ None → None ≡ all
appear_none f xs i x count all at h e =
    sym (ap (read_on (appeared (flat_map f (drop (i + 1) xs)))) e)
    ∙ (sym (appeared-append (f x) (flat_map f (drop (i + 1) xs)) count) ∙ (sym (ap (λ ys. appeared (flat_map f ys) count) (split_at xs i x at)) ∙ h))

pub appear_done : {A : Type 0} (f : A → List ℕ) (xs : List A) (i count : ℕ) (all : Option ℕ) → length xs ≤ i
    → appeared (flat_map f (drop i xs)) count ≡ all → Some count ≡ all
appear_done f xs i count all past h = sym (ap (λ ys. appeared (flat_map f ys) count) (drop_all i xs past)) ∙ h

-- ---- in order of appearance

abbrev at_least : ℕ → ℕ → Bool
at_least s y = not (nat_lt y s)

filter_both : (p q r : ℕ → Bool) → ((x : ℕ) → r x ≡ (q x && p x)) → (xs : List ℕ) → filter p (filter q xs) ≡ filter r xs
filter_both p q r same [] = refl
filter_both p q r same (x ∷ xs) = by_test (q x) (p x) refl refl (filter_both p q r same xs)
  where
    by_test : (a b : Bool) → q x ≡ a → p x ≡ b → filter p (filter q xs) ≡ filter r xs → filter p (cond (q x) (x ∷ filter q xs) (filter q xs)) ≡ cond (r x) (x ∷ filter r xs) (filter r xs)
    by_test true true is_a is_b rest =
        ap (λ a. filter p (cond a (x ∷ filter q xs) (filter q xs))) is_a
        ∙ (ap (λ b. cond b (x ∷ filter p (filter q xs)) (filter p (filter q xs))) is_b
        ∙ (ap (λ ys. x ∷ ys) (rest)
        ∙ sym (ap (λ c. cond c (x ∷ filter r xs) (filter r xs)) (same x ∙ (ap (λ a. a && p x) is_a ∙ is_b)))))
    by_test true false is_a is_b rest =
        ap (λ a. filter p (cond a (x ∷ filter q xs) (filter q xs))) is_a
        ∙ (ap (λ b. cond b (x ∷ filter p (filter q xs)) (filter p (filter q xs))) is_b
        ∙ (rest
        ∙ sym (ap (λ c. cond c (x ∷ filter r xs) (filter r xs)) (same x ∙ (ap (λ a. a && p x) is_a ∙ is_b)))))
    by_test false b is_a is_b rest =
        ap (λ a. filter p (cond a (x ∷ filter q xs) (filter q xs))) is_a
        ∙ (rest ∙ sym (ap (λ c. cond c (x ∷ filter r xs) (filter r xs)) (same x ∙ ap (λ a. a && p x) is_a)))

-- what is at least s, and isn't x, where x is less
skip : (s x : ℕ) → x < s → (y : ℕ) → at_least s y ≡ (not (x == y) && at_least s y)
skip s x lt y = by_test (x == y) refl
  where
    by_test : (b : Bool) → (x == y) ≡ b → at_least s y ≡ (not (x == y) && at_least s y)
    by_test false is = sym (ap (λ b. not b && at_least s y) is)
    by_test true is =
        let less : nat_lt y s ≡ true = subst (λ z. nat_lt z s ≡ true) (eqb-true x y is) (lt-ltb x s lt) in
        ap not less ∙ sym (ap (λ b. not b && at_least s y) is)

-- where x is s itself
above : (s y : ℕ) → at_least (s + 1) y ≡ (not (s == y) && at_least s y)
above s y = by_test (s == y) (nat_lt y s) refl refl
  where
    by_test : (a b : Bool) → (s == y) ≡ a → nat_lt y s ≡ b → at_least (s + 1) y ≡ (not (s == y) && at_least s y)
    by_test true b is_a is_b =
        let e = eqb-true s y is_a in
        ap not (lt-ltb y (s + 1) (omega (arith, e))) ∙ sym (ap (λ a. not a && at_least s y) is_a)
    by_test false true is_a is_b =
        let lt = ltb-true y s is_b in
        ap not (lt-ltb y (s + 1) (omega (arith, lt))) ∙ sym (ap (λ a. not a && at_least s y) is_a ∙ ap not is_b)
    by_test false false is_a is_b =
        let low = ltb-false y s is_b in
        let other : s ≡ y → ⊥ = λ e. false≢true (sym is_a ∙ eq-eqb s y e) in
        ap not (le-ltb y (s + 1) (omega (arith, low, other))) ∙ sym (ap (λ a. not a && at_least s y) is_a ∙ ap not is_b)

pub record ReadFrom (xs : List ℕ) (s n : ℕ) : Type 0 where
  pub reached : s ≤ n
  pub numbers : filter (at_least s) (distinct ◌==◌ xs) ≡ numbers_from s (n - s)

read_from : (xs : List ℕ) (s n : ℕ) → appeared xs s ≡ Some n → ReadFrom xs s n
read_from [] s n e =
    let same : s ≡ n = same_Some s n e in
    let none : 0 ≡ n - s = omega (arith, same) in
    record { reached = omega (arith, same); numbers = ap (numbers_from s) none }
read_from (x ∷ xs) s n e = by_test (x == s) (nat_lt x s) refl refl (λ k h. read_from xs k n h)
  where
    others : List ℕ
    others = distinct ◌==◌ xs

    tested : (a b : Bool) → (x == s) ≡ a → nat_lt x s ≡ b → appeared (x ∷ xs) s ≡ read_on (appeared xs) (if a then Some (s + 1) else (if b then Some s else None))
    tested a b is_a is_b =
        ap (λ t. read_on (appeared xs) (if t then Some (s + 1) else (if nat_lt x s then Some s else None))) is_a
        ∙ ap (λ t. read_on (appeared xs) (if a then Some (s + 1) else (if t then Some s else None))) is_b

    by_test : (a b : Bool) → (x == s) ≡ a → nat_lt x s ≡ b → ((k : ℕ) → appeared xs k ≡ Some n → ReadFrom xs k n) → ReadFrom (x ∷ xs) s n
    by_test true b is_a is_b rest =
        let is : x ≡ s = eqb-true x s is_a in
        let k : ReadFrom xs (s + 1) n = rest (s + 1) (sym (tested true b is_a is_b) ∙ e) in
        let one : n - s ≡ suc (n - (s + 1)) = omega (arith, k.reached) in
        let here : at_least s x ≡ true = ap not (le-ltb x s (omega (arith, is))) in
        record {
          reached = omega (arith, k.reached);
          numbers =
              ap (λ b. cond b (x ∷ filter (at_least s) (filter (λ y. not (x == y)) others)) (filter (at_least s) (filter (λ y. not (x == y)) others))) here
              ∙ (ap (λ z. x ∷ filter (at_least s) (filter (λ y. not (z == y)) others)) is
              ∙ (ap (λ ys. x ∷ ys) (filter_both (at_least s) (λ y. not (s == y)) (at_least (s + 1)) (above s) others)
              ∙ (ap (λ ys. x ∷ ys) k.numbers ∙ (ap (λ z. z ∷ numbers_from (s + 1) (n - (s + 1))) is ∙ ap (numbers_from s) (sym one)))));
        }
    by_test false true is_a is_b rest =
        let k : ReadFrom xs s n = rest s (sym (tested false true is_a is_b) ∙ e) in
        let here : at_least s x ≡ false = ap not is_b in
        record {
          reached = k.reached;
          numbers =
              ap (λ b. cond b (x ∷ filter (at_least s) (filter (λ y. not (x == y)) others)) (filter (at_least s) (filter (λ y. not (x == y)) others))) here
              ∙ (filter_both (at_least s) (λ y. not (x == y)) (at_least s) (skip s x (ltb-true x s is_b)) others ∙ k.numbers);
        }
    by_test false false is_a is_b rest = absurd (none-some n (sym (tested false false is_a is_b) ∙ e))

keep_all : (xs : List ℕ) → filter (at_least 0) xs ≡ xs
keep_all [] = refl
keep_all (x ∷ xs) =
    ap (λ b. cond (not b) (x ∷ filter (at_least 0) xs) (filter (at_least 0) xs)) (le-ltb x 0 (omega arith)) ∙ ap (λ ys. x ∷ ys) (keep_all xs)

-- Numbers that can be read are in order of appearance.
pub in_order : (xs : List ℕ) (n : ℕ) → appeared xs 0 ≡ Some n → InOrderOfAppearance xs n
in_order xs n e =
    let k = read_from xs 0 n e in
    let all : n - 0 ≡ n = omega arith in
    sym (keep_all (distinct ◌==◌ xs)) ∙ (k.numbers ∙ ap (numbers_from 0) all)
