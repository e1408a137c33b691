-- The numbers of an extracted file, which a second extraction keeps.
use Rattle.std.specs.Ordering.{int_eq}
use Rattle.std.specs.Prelude.{◌≡◌, ℕ, zero, suc, ◌+◌, ◌*◌, ◌<◌, ◌≤◌, Bool, true, false, ℤ, pos, List, [], ◌∷◌, length, nat_lt, if◌then◌else◌, unsigned_abs}
use Rattle.std.specs.List.Sorted.{IsStrictlyIncreasing}
use Rattle.std.proofs.Common.{refl, sym, ap, subst, ◌∙◌, arith, inl, inr}
use Rattle.std.proofs.lemmas.Bool.{and_from, lt-ltb}
use Rattle.std.proofs.lemmas.Bool.Decides.{Decides-int_eq}
use Rattle.entry_references.proofs.RisingLists.{In, rises, rises_by_test}
use Rattle.solid_extract.specs.Extracted.{new_number, renamed}
use Rattle.solid_extract.specs.Renaming.{place_of}
use Rattle.solid_extract.proofs.Places.{place_here, place_later, place_few}

-- so many odd numbers, from the i-th on, where the first is 1
abbrev pub odds_from : ℕ → ℕ → List ℕ
odds_from i zero = []
odds_from i (suc n) = (2 * i + 1) ∷ odds_from (i + 1) n

pub odds_long : (i n : ℕ) → length (odds_from i n) ≡ n
odds_long i zero = refl
odds_long i (suc n) = ap suc (odds_long (i + 1) n)

place_odd : (i n k : ℕ) → k ≤ n → place_of (odds_from i n) (2 * (i + k) + 1) ≡ k
place_odd i zero k le = let none : 0 ≡ k = omega (arith, le) in none
place_odd i (suc n) zero le = place_here (2 * i + 1) (2 * (i + 0) + 1) (odds_from (i + 1) n) (let e : 2 * i + 1 ≡ 2 * (i + 0) + 1 = omega arith in e)
place_odd i (suc n) (suc k) le =
    let next : 2 * (i + suc k) + 1 ≡ 2 * (i + 1 + k) + 1 = omega arith in
    place_later (2 * i + 1) (2 * (i + suc k) + 1) (odds_from (i + 1) n) (λ e. omega (arith, e))
    ∙ ap suc (ap (place_of (odds_from (i + 1) n)) next ∙ place_odd (i + 1) n k (omega (arith, le)))

pub in_odds : (i n k : ℕ) → k < n → In (odds_from i n) (2 * (i + k) + 1)
in_odds i zero k lt = absurd (omega (arith, lt))
in_odds i (suc n) zero lt = inl (let e : 2 * i + 1 ≡ 2 * (i + 0) + 1 = omega arith in e)
in_odds i (suc n) (suc k) lt =
    let next : 2 * (i + 1 + k) + 1 ≡ 2 * (i + suc k) + 1 = omega arith in
    inr (subst (In (odds_from (i + 1) n)) next (in_odds (i + 1) n k (omega (arith, lt))))

pub from_odds : (i n m : ℕ) → In (odds_from i n) m → (k : ℕ) × (k < n) × (m ≡ 2 * (i + k) + 1)
from_odds i zero m h = absurd h
from_odds i (suc n) m (inl e) = (0, omega arith, let s : m ≡ 2 * (i + 0) + 1 = omega (arith, e) in s)
from_odds i (suc n) m (inr h) =
    let r = from_odds (i + 1) n m h in
    (suc r.0, omega (arith, r.1), let s : m ≡ 2 * (i + suc r.0) + 1 = omega (arith, r.2) in s)

odds_rise : (i n : ℕ) → rises (odds_from i n) ≡ true
odds_rise i zero = refl
odds_rise i (suc zero) = refl
odds_rise i (suc (suc n)) = and_from (nat_lt (2 * i + 1) (2 * (i + 1) + 1)) (rises (odds_from (i + 1) (suc n)))
    (lt-ltb (2 * i + 1) (2 * (i + 1) + 1) (omega arith)) (odds_rise (i + 1) (suc n))

pub odds_rising : (n : ℕ) → IsStrictlyIncreasing (odds_from 0 n)
odds_rising n = rises_by_test (odds_from 0 n) (odds_rise 0 n)

-- the odd numbers keep themselves, and so does the number that what isn't kept gets
pub new_odd : (n k : ℕ) → k ≤ n → new_number (odds_from 0 n) (2 * k + 1) ≡ 2 * k + 1
new_odd n k le =
    let place : place_of (odds_from 0 n) (2 * (0 + k) + 1) ≡ k = place_odd 0 n k le in
    let same : 2 * (0 + k) + 1 ≡ 2 * k + 1 = omega arith in
    ap (λ (x : ℕ). 2 * x + 1) (sym (ap (place_of (odds_from 0 n)) same) ∙ place)

pub odd_not_zero : (k : ℕ) → int_eq (pos (2 * k + 1)) (pos 0) ≡ false
odd_not_zero k = by_test (int_eq (pos (2 * k + 1)) (pos 0)) refl
  where
    by_test : (b : Bool) → int_eq (pos (2 * k + 1)) (pos 0) ≡ b → int_eq (pos (2 * k + 1)) (pos 0) ≡ false
    by_test true e = let none : 2 * k + 1 ≡ 0 = ap unsigned_abs ((Decides-int_eq (pos (2 * k + 1)) (pos 0)).0 e) in absurd (omega (arith, none))
    by_test false e = e

-- only 0 becomes 0
pub renamed_zero : (kept : List ℕ) (z : ℤ) → int_eq (renamed kept z) (pos 0) ≡ int_eq z (pos 0)
renamed_zero kept z = by_test (int_eq z (pos 0)) refl
  where
    by_test : (b : Bool) → int_eq z (pos 0) ≡ b → int_eq (if b then z else pos (new_number kept (unsigned_abs z))) (pos 0) ≡ b
    by_test true e = e
    by_test false e = odd_not_zero (place_of kept (unsigned_abs z))

-- what a renamed number is
pub data IsRenamed (kept : List ℕ) : ℤ → Type 0 where
  nothing : IsRenamed kept (pos 0)
  something : (k : ℕ) → k ≤ length kept → IsRenamed kept (pos (2 * k + 1))

pub is_renamed : (kept : List ℕ) (z : ℤ) → IsRenamed kept (renamed kept z)
is_renamed kept z = by_test (int_eq z (pos 0)) refl
  where
    by_test : (b : Bool) → int_eq z (pos 0) ≡ b → IsRenamed kept (if b then z else pos (new_number kept (unsigned_abs z)))
    by_test true e = subst (IsRenamed kept) (sym ((Decides-int_eq z (pos 0)).0 e)) nothing
    by_test false e = something (place_of kept (unsigned_abs z)) (place_few kept (unsigned_abs z))

same_again : (kept : List ℕ) (z : ℤ) → IsRenamed kept z → renamed (odds_from 0 (length kept)) z ≡ z
same_again kept z nothing = refl
same_again kept z (something k le) = by_test (int_eq (pos (2 * k + 1)) (pos 0))
  where
    by_test : (b : Bool) → (if b then pos (2 * k + 1) else pos (new_number (odds_from 0 (length kept)) (2 * k + 1))) ≡ pos (2 * k + 1)
    by_test true = refl
    by_test false = ap (λ (x : ℕ). pos x) (new_odd (length kept) k le)

pub renamed_again : (kept : List ℕ) (z : ℤ) → renamed (odds_from 0 (length kept)) (renamed kept z) ≡ renamed kept z
renamed_again kept z = same_again kept (renamed kept z) (is_renamed kept z)
