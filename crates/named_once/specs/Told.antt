-- The numbers in a record.
use Rattle.std.specs.Prelude.{ℕ, zero, suc, ◌+◌, min, ℤ, pos, List, [], ◌∷◌, length, Option, Some, None, if◌then◌else◌}
use Rattle.std.specs.Ordering.{int_eq}
use Rattle.iges_fields.specs.declared.value.Value.{Value}
use Rattle.iges_params.specs.Contents.{Contents}
use Rattle.iges_params.specs.Named.{named}
use Rattle.brep_lists.specs.Record.{count_at, int_at}
use Rattle.entry_references.specs.Refs.{Record}

-- so many numbers, each so many places behind the one before
abbrev pub numbers_from : List Value → ℕ → ℕ → ℕ → List ℤ
numbers_from vs at step zero = []
numbers_from vs at step (suc n) = int_at vs at ∷ numbers_from vs (at + step) step n

-- the count at a place, but no more than there are values
abbrev pub count_within : List Value → ℕ → ℕ
count_within vs place = min (count_at vs place) (length vs)

-- what pairs name, behind their count at this place: the voids of a solid behind place 2, the faces of a shell behind place 0
abbrev pub numbers_told : List Value → ℕ → List ℤ
numbers_told vs place = numbers_from vs (place + 1) 2 (count_within vs place)

abbrev pub loops_told : Option Record → List ℤ
loops_told None = []
loops_told (Some r) = if int_eq r.0.kind (pos 510) then numbers_from r.1 3 1 (count_within r.1 1) else []

-- the loops of the face that a number names; none where it names no face
abbrev pub loops_named : Contents → ℤ → List ℤ
loops_named f z = loops_told (named f z)
