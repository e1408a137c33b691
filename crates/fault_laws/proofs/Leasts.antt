-- For each number below a bound the least one that chains lead to, where it can be told whether a chain leads from one to another.
use Rattle.std.specs.Prelude.{◌≡◌, ◌<◌, ◌≤◌, ◌+◌, ◌⊎◌, ℕ, zero, suc, List, [], ◌∷◌, length, Some, slice_get}
use Rattle.std.proofs.Common.{refl, ap, subst, arith, ⊎_elim}
use Rattle.std.proofs.lemmas.Bool.{cases_order}
use Rattle.std.proofs.lemmas.Option.{same_Some}
use Rattle.solid_data.specs.Chain.{LeadsTo}
use Rattle.solid_data.proofs.Decisions.{Decided}
use Rattle.solid_data.proofs.Trail.{leads_here}

not_below : (P : ℕ → Type 0) (i m : ℕ) → ((n : ℕ) → n < i → P n → ⊥) → P m → i ≤ m
not_below P i m none p =
    ⊎_elim (λ e. omega (arith, e)) (λ other. ⊎_elim (λ below. absurd (none m below p)) (λ above. omega (arith, above)) other) (cases_order m i)

none_more : (P : ℕ → Type 0) (i m : ℕ) → ((n : ℕ) → n < i → P n → ⊥) → (P i → ⊥) → m < i + 1 → P m → ⊥
none_more P i m none never lt p =
    ⊎_elim (λ e. never (subst P e p)) (λ other. ⊎_elim (λ below. none m below p) (λ above. absurd (omega (arith, lt, above))) other) (cases_order m i)

least_up : (P : ℕ → Type 0) → ((n : ℕ) → Decided (P n)) → (fuel i : ℕ) → ((n : ℕ) → n < i → P n → ⊥) → P (i + fuel)
    → (n : ℕ) × P n × ((m : ℕ) → P m → n ≤ m)
least_up P each zero i none p = let z : i + 0 ≡ i = omega arith in (i, subst P z p, λ m q. not_below P i m none q)
least_up P each (suc fuel) i none p =
    let z : i + suc fuel ≡ i + 1 + fuel = omega arith in
    ⊎_elim (λ here. (i, here, λ m q. not_below P i m none q))
    (λ never. least_up P each fuel (i + 1) (λ n lt q. none_more P i n none never lt q) (subst P z p)) (each i)

-- the least number of which it holds
least_of : (P : ℕ → Type 0) → ((n : ℕ) → Decided (P n)) → (k : ℕ) → P k → (n : ℕ) × P n × ((m : ℕ) → P m → n ≤ m)
least_of P each k p = let z : k ≡ 0 + k = omega arith in least_up P each k 0 (λ n lt q. absurd (omega (arith, lt))) (subst P z p)

-- a list of such numbers, one for each place
listed : (Q : ℕ → ℕ → Type 0) (count : ℕ) → ((i : ℕ) → (x : ℕ) × Q i x) → (xs : List ℕ) × (length xs ≡ count)
    × ((i x : ℕ) → slice_get xs i ≡ Some x → Q i x)
listed Q zero each = ([], refl, λ i x at. absurd cc)
listed Q (suc count) each =
    let rest = listed (λ i x. Q (suc i) x) count (λ i. each (suc i)) in
    let head = each 0 in
    (head.0 ∷ rest.0, ap suc rest.1, λ i x at. by_place head.0 rest.0 head.1 rest.2 i x at)
  where
    by_place : (y : ℕ) (ys : List ℕ) → Q 0 y → ((i x : ℕ) → slice_get ys i ≡ Some x → Q (suc i) x) → (i x : ℕ) → slice_get (y ∷ ys) i ≡ Some x → Q i x
    by_place y ys first more zero x at = subst (Q 0) (same_Some y x at) first
    by_place y ys first more (suc i) x at = more i x at

-- n is the least number that chains from f lead to
abbrev pub IsLeast : (ℕ → ℕ → Type 0) → ℕ → ℕ → Type 0
IsLeast R f n = LeadsTo R f n × ((m : ℕ) → LeadsTo R f m → n ≤ m)

pub leasts_of : (R : ℕ → ℕ → Type 0) → ((a b : ℕ) → Decided (LeadsTo R a b)) → (count : ℕ)
    → (xs : List ℕ) × (length xs ≡ count) × ((f n : ℕ) → slice_get xs f ≡ Some n → IsLeast R f n)
leasts_of R each count = listed (IsLeast R) count (λ f. let least = least_of (λ n. LeadsTo R f n) (each f) f (leads_here R f) in (least.0, (least.1, least.2)))
