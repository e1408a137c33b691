-- The lines of a record one by one.
use Rattle.std.proofs.Common.{◌≡◌, ℕ, suc, ◌+◌, ◌-◌, ◌<◌, ◌≤◌, Bool, true, false, List, [], ◌∷◌, refl, length, drop, get_or, Some, sym, ap, ◌∙◌, arith}
use Rattle.std.proofs.Common.{length-drop}
use Rattle.std.specs.Prelude.{slice_get, slice_range}
use Rattle.std.specs.List.{position_from}
use Rattle.std.proofs.Math.Seq.{drop-cons}
use Rattle.std.proofs.lemmas.Bool.{cond-true, cond-false}
use Rattle.std.proofs.lemmas.List.{drop_all, length-take, get_or-take, get_or-drop}
use Rattle.std.proofs.lemmas.Option.{get_or_from_slice_get}

module _ {X : Type 0} (xs : List X) (from count i : ℕ) (x : X) (is : slice_get xs (from + i) ≡ Some x) (here : i < count)
    (within : from + count ≤ length xs) where
  abbrev range : List X
  range = slice_range xs from (from + count)

  pub range_long : length range ≡ count
  range_long = omega (arith, length-take (from + count - from) (drop from xs), length-drop from xs, within)

  pub range_at : drop i range ≡ x ∷ drop (i + 1) range
  range_at =
      let long : i < length range = omega (arith, range_long, here) in
      let n : i < from + count - from = omega (arith, here) in
      let item : get_or range i x ≡ x = get_or-take (from + count - from) (drop from xs) i x n ∙ get_or-drop from xs i x ∙ get_or_from_slice_get xs
      (from + i) x x is in
      drop-cons range i x long ∙ ap (λ (y : X). y ∷ drop (suc i) range) item ∙ ap (λ (k : ℕ). x ∷ drop k range) (let k : suc i ≡ i + 1 = omega arith in k)

  module _ (test : X → Bool) where
    pub place_here : test x ≡ true → position_from test i (drop i range) ≡ position_from test 0 range → Some i ≡ position_from test 0 range
    place_here t h = sym (ap (position_from test i) range_at ∙ cond-true (test x) (Some i) (position_from test (i + 1) (drop (i + 1) range)) t) ∙ h

    pub place_next : test x ≡ false → position_from test i (drop i range) ≡ position_from test 0 range →
        position_from test (i + 1) (drop (i + 1) range) ≡ position_from test 0 range
    place_next t h = sym (ap (position_from test i) range_at ∙ cond-false (test x) (Some i) (position_from test (i + 1) (drop (i + 1) range)) t) ∙ h

-- the first of the lines
module _ {X : Type 0} (xs : List X) (from count : ℕ) (x : X) (is : slice_get xs from ≡ Some x) (some : 0 < count) (within : from + count ≤ length xs) where
  at_first : slice_get xs (from + 0) ≡ Some x
  at_first = ap (λ (k : ℕ). slice_get xs k) (let same : from + 0 ≡ from = omega arith in same) ∙ is

  pub range_first : slice_range xs from (from + count) ≡ x ∷ drop 1 (slice_range xs from (from + count))
  range_first = range_at xs from count 0 x at_first some within

  pub only_line : count ≡ 1 → slice_range xs from (from + count) ≡ x ∷ []
  only_line one = range_first ∙ ap (λ (ys : List X). x ∷ ys) (drop_all 1 (slice_range xs from (from + count))
      (omega (arith, one, range_long xs from count 0 x at_first some within)))

  module _ (test : X → Bool) where
    pub first_here : test x ≡ true → Some 0 ≡ position_from test 0 (slice_range xs from (from + count))
    first_here t = place_here xs from count 0 x at_first some within test t refl

    pub first_not : test x ≡ false → position_from test 1 (drop 1 (slice_range xs from (from + count))) ≡ position_from test 0
        (slice_range xs from (from + count))
    first_not t = place_next xs from count 0 x at_first some within test t refl
