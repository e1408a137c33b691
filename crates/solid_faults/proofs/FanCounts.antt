-- The fans that are counted at a vertex.
use Rattle.std.specs.Prelude.{◌≡◌, ◌≤◌, ◌+◌, ◌==◌, ◌&&◌, ℕ, zero, suc, Bool, true, false, List, [], ◌∷◌, Some, slice_get, if◌then◌else◌}
use Rattle.std.proofs.Common.{refl, ◌∙◌, ap, arith, ⊎_elim}
use Rattle.std.proofs.lemmas.Bool.{eq-eqb, eqb-true, and_from, and_parts, cases_lt}
use Rattle.std.proofs.lemmas.Option.{same_Some}
use Rattle.edge_uses.specs.declared.row.Row.{Row}
use Rattle.shell_components.proofs.GroupSteps.{one_if}
use Rattle.solid_faults.specs.Fans.{fans_from}

-- row j starts at the vertex, and is the least of its fan
pub record FanAt (v i : ℕ) (rs : List Row) (fs : List ℕ) (j : ℕ) : Type 0 where
  pub row : Row
  pub at : slice_get rs j ≡ Some row
  pub starts : row.from.0 ≡ v
  pub least : slice_get fs j ≡ Some (i + j)

later : (v i : ℕ) (r : Row) (rs : List Row) (f : ℕ) (fs : List ℕ) (j : ℕ) → FanAt v (i + 1) rs fs j → FanAt v i (r ∷ rs) (f ∷ fs) (suc j)
later v i r rs f fs j h = let e : i + 1 + j ≡ i + suc j = omega arith in record { row = h.row; at = h.at; starts = h.starts; least = h.least ∙ ap Some e }

sooner : (v i : ℕ) (r : Row) (rs : List Row) (f : ℕ) (fs : List ℕ) (j : ℕ) → FanAt v i (r ∷ rs) (f ∷ fs) (suc j) → FanAt v (i + 1) rs fs j
sooner v i r rs f fs j h = let e : i + suc j ≡ i + 1 + j = omega arith in record { row = h.row; at = h.at; starts = h.starts; least = h.least ∙ ap Some e }

-- the test at a row
here_tests : (v i : ℕ) (r : Row) (rs : List Row) (f : ℕ) (fs : List ℕ) → FanAt v i (r ∷ rs) (f ∷ fs) zero → ((r.from.0 == v) && (f == i)) ≡ true
here_tests v i r rs f fs h =
    let e : i + 0 ≡ i = omega arith in
    and_from (r.from.0 == v) (f == i) (eq-eqb r.from.0 v (ap (λ (x : Row). x.from.0) (same_Some r h.row h.at) ∙ h.starts))
    (eq-eqb f i (same_Some f (i + 0) h.least ∙ e))

tests_here : (v i : ℕ) (r : Row) (rs : List Row) (f : ℕ) (fs : List ℕ) → ((r.from.0 == v) && (f == i)) ≡ true → FanAt v i (r ∷ rs) (f ∷ fs) zero
tests_here v i r rs f fs h =
    let k = and_parts (r.from.0 == v) (f == i) h in
    let e : i ≡ i + 0 = omega arith in
    record { row = r; at = refl; starts = eqb-true r.from.0 v k.0; least = ap Some (eqb-true f i k.1 ∙ e) }

pub found_fan : (v i : ℕ) (rs : List Row) (fs : List ℕ) → 1 ≤ fans_from v i rs fs → (j : ℕ) × FanAt v i rs fs j
found_fan v i [] fs h = absurd (omega (arith, h))
found_fan v i (r ∷ rs) [] h = absurd (omega (arith, h))
found_fan v i (r ∷ rs) (f ∷ fs) h = by_test ((r.from.0 == v) && (f == i)) refl h (λ k. found_fan v (i + 1) rs fs k)
  where
    by_test : (b : Bool) → ((r.from.0 == v) && (f == i)) ≡ b → 1 ≤ (if b then 1 else 0) + fans_from v (i + 1) rs fs
        → (1 ≤ fans_from v (i + 1) rs fs → (j : ℕ) × FanAt v (i + 1) rs fs j) → (j : ℕ) × FanAt v i (r ∷ rs) (f ∷ fs) j
    by_test true e g on = (zero, tests_here v i r rs f fs e)
    by_test false e g on = let k = on (omega (arith, g)) in (suc k.0, later v i r rs f fs k.0 k.1)

pub counted_fan : (v i : ℕ) (rs : List Row) (fs : List ℕ) (j : ℕ) → FanAt v i rs fs j → 1 ≤ fans_from v i rs fs
counted_fan v i [] fs j h = absurd (let g = h.at in cc)
counted_fan v i (r ∷ rs) [] j h = absurd (let g = h.least in cc)
counted_fan v i (r ∷ rs) (f ∷ fs) zero h = omega (arith, one_if ((r.from.0 == v) && (f == i)) (here_tests v i r rs f fs h))
counted_fan v i (r ∷ rs) (f ∷ fs) (suc j) h = omega (arith, counted_fan v (i + 1) rs fs j (sooner v i r rs f fs j h))

pub one_fan : (v i : ℕ) (rs : List Row) (fs : List ℕ) (j k : ℕ) → fans_from v i rs fs ≡ 1 → FanAt v i rs fs j → FanAt v i rs fs k → j ≡ k
one_fan v i [] fs j k one h g = absurd (let x = h.at in cc)
one_fan v i (r ∷ rs) [] j k one h g = absurd (let x = h.least in cc)
one_fan v i (r ∷ rs) (f ∷ fs) zero zero one h g = refl
one_fan v i (r ∷ rs) (f ∷ fs) zero (suc k) one h g =
    absurd (omega (arith, one, one_if ((r.from.0 == v) && (f == i)) (here_tests v i r rs f fs h), counted_fan v (i + 1) rs fs k (sooner v i r rs f fs k g)))
one_fan v i (r ∷ rs) (f ∷ fs) (suc j) zero one h g =
    absurd (omega (arith, one, one_if ((r.from.0 == v) && (f == i)) (here_tests v i r rs f fs g), counted_fan v (i + 1) rs fs j (sooner v i r rs f fs j h)))
one_fan v i (r ∷ rs) (f ∷ fs) (suc j) (suc k) one h g =
    ap suc (one_fan v (i + 1) rs fs j k (omega (arith, one, counted_fan v (i + 1) rs fs j (sooner v i r rs f fs j h))) (sooner v i r rs f fs j h)
    (sooner v i r rs f fs k g))

pub few_fans : (v i : ℕ) (rs : List Row) (fs : List ℕ) → ((j k : ℕ) → FanAt v i rs fs j → FanAt v i rs fs k → j ≡ k) → fans_from v i rs fs ≤ 1
few_fans v i [] fs same = omega arith
few_fans v i (r ∷ rs) [] same = omega arith
few_fans v i (r ∷ rs) (f ∷ fs) same =
    by_test ((r.from.0 == v) && (f == i)) refl
    (few_fans v (i + 1) rs fs (λ j k h g. let e : suc j ≡ suc k = same (suc j) (suc k) (later v i r rs f fs j h) (later v i r rs f fs k g) in omega (arith, e)))
  where
    by_test : (b : Bool) → ((r.from.0 == v) && (f == i)) ≡ b → fans_from v (i + 1) rs fs ≤ 1 → (if b then 1 else 0) + fans_from v (i + 1) rs fs ≤ 1
    by_test true e few =
        ⊎_elim
        (λ some. let k = found_fan v (i + 1) rs fs (omega (arith, some))
        in let clash : zero ≡ suc k.0 = same zero (suc k.0) (tests_here v i r rs f fs e) (later v i r rs f fs k.0 k.1) in absurd (omega (arith, clash)))
        (λ none. omega (arith, none))
        (cases_lt 0 (fans_from v (i + 1) rs fs))
    by_test false e few = omega (arith, few)
