-- The numbers in the fields of an entry that are followed, and numbers that are put after others.
use Rattle.std.specs.Prelude.{◌≡◌, ℕ, ℤ, pos, neg_ℤ, int_lt, List, [], ◌∷◌, ◌++◌, take, if◌then◌else◌}
use Rattle.std.specs.Ordering.{int_eq}
use Rattle.iges_directory.specs.declared.entry.Entry.{Entry}

abbrev pub matrix_of : Entry → List ℤ
matrix_of e = if int_eq e.matrix (pos 0) then [] else e.matrix ∷ []

abbrev pub colour_of : Entry → List ℤ
colour_of e = if int_lt e.colour (pos 0) then neg_ℤ e.colour ∷ [] else []

-- some of the first of the numbers were put after, and no more
abbrev pub AddsFirstOf : List ℤ → List ℤ → List ℤ → Type 0
AddsFirstOf old zs new = (k : ℕ) × (new ≡ old ++ take k zs)
