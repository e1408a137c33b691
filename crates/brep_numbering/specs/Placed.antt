-- Numbers that are found by their positions.
use Rattle.std.specs.Prelude.{◌≡◌, ◌<◌, ℕ, List, length, slice_index}

-- each number's position is where it is
abbrev pub ArePlaced : List ℕ → List ℕ → Type 0
ArePlaced positions numbers = (p : ℕ) → p < length numbers → slice_index positions (slice_index numbers p) ≡ p
