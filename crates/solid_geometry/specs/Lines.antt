-- Private: numbers of lines.
use Rattle.std.specs.Prelude.{◌≡◌, ℕ, ◌<◌, ◌^◌, nat_le, true, false, ℤ, List, ◌++◌, Option, Some, None, if◌then◌else◌}
use Rattle.std.specs.Fmt.{decimal}
use Rattle.iges_params.specs.Contents.{Contents}
use Rattle.equal_values.specs.Keys.{keys_of, marked}
use Rattle.record_numbers.specs.Keys.{KeyMap, number_by}
use Rattle.solid_geometry.specs.Curves.{is_line, point}

unfoldable pub point_key : Contents → ℤ → ℕ → List ℕ
point_key f z at = keys_of (point f z at)

-- the lesser of two numbers first
abbrev pub pair_key : ℕ → ℕ → List ℕ
pair_key x y = marked (decimal x) ++ marked (decimal y)

abbrev pub ends_key : ℕ → ℕ → List ℕ
ends_key x y = if nat_le x y then pair_key x y else pair_key y x

-- the points have numbers, and so has their pair
pub record IsLineNumber {Z : Type 0} (f : Contents) (points pairs : KeyMap Z) (z : ℤ) (n : ℕ) : Type 0 where
  pub start : ℕ
  pub end : ℕ
  pub start_is : number_by points (point_key f z 0) ≡ Some start
  pub end_is : number_by points (point_key f z 3) ≡ Some end
  pub small_start : start < 2 ^ 32
  pub small_end : end < 2 ^ 32
  pub pair : number_by pairs (ends_key start end) ≡ Some n

abbrev pub IsLineOf : {Z : Type 0} → Contents → KeyMap Z → KeyMap Z → ℤ → Option ℕ → Type 0
IsLineOf f points pairs z None = is_line f z ≡ false
IsLineOf f points pairs z (Some n) = (is_line f z ≡ true) × IsLineNumber f points pairs z n
