-- In which part of a list of obligations the first false one stands.
use Rattle.std.specs.Prelude.{◌≡◌, ℕ, suc, ◌+◌, List, [], ◌∷◌, ◌++◌, ◌⊎◌, length, Some, slice_get}
use Rattle.std.proofs.Common.{refl, arith, ⊎_elim, length-append}
use Rattle.solid_data.specs.declared.verdict.Rule.{Rule}
use Rattle.solid_data.specs.declared.verdict.Failing.{Failing}
use Rattle.solid_data.specs.Obligations.{Obligation, FirstFalse, after_each}
use Rattle.record_paths.proofs.Bearing.{false_either}

-- what is named where a rule fails at an item of an entity
abbrev pub fail : Rule → ℕ → ℕ → Failing
fail r e item = record { rule = r; entity = record { 0 = e }; place = item }

-- the item of a list whose obligations have it, and those before
pub record IsAtItem {A : Type 0} (g : List A → A → List Obligation) (xs : List A) (start : ℕ) (x : Failing) : Type 0 where
  pub place : ℕ
  pub before : List A
  pub counted : length before ≡ start + place
  pub item : A
  pub there : slice_get xs place ≡ Some item
  pub false_here : FirstFalse (g before item) x

pub at_item : {A : Type 0} (g : List A → A → List Obligation) (before xs : List A) (x : Failing) → FirstFalse (after_each g before xs) x
    → IsAtItem g xs (length before) x
at_item {A} g before [] x h = absurd h
at_item {A} g before (y ∷ ys) x h =
    ⊎_elim
    (λ here. record {
      place = 0;
      before = before;
      counted = (let e : length before ≡ length before + 0 = omega arith in e);
      item = y;
      there =
          refl;
      false_here = here;
    })
    (λ later.
    let r = at_item g (before ++ y ∷ []) ys x later.1 in
    let more = length-append before (y ∷ []) in
    let counted = r.counted in
    record {
      place = suc r.place;
      before = r.before;
      counted = (let e : length r.before ≡ length before + suc r.place = omega (arith, more, counted) in e);
      item = r.item;
      there = r.there;
      false_here = r.false_here;
    })
    (false_either (g before y) (after_each g (before ++ y ∷ []) ys) x h)
