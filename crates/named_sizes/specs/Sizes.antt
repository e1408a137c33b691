-- How much the records of a solid name: all loops of the faces of its shells, each as often as it is named. A record that doesn't fit names nothing.
use Rattle.std.specs.Prelude.{◌≡◌, ℕ, ℤ, pos, Bool, true, false, List, [], length, min, Some, slice_get, ◌+◌, ◌==◌, if◌then◌else◌}
use Rattle.std.specs.List.{sum_by}
use Rattle.iges_params.specs.Contents.{Contents}
use Rattle.iges_params.specs.Named.{values_of}
use Rattle.brep_lists.specs.OwnValues.{is_record_of}
use Rattle.brep_lists.specs.declared.entity_kind.EntityKind.TheVariants.{Solid as solid, Shell as shell, Face as face}
use Rattle.named_sizes.specs.declared.TheConstants.{ENTRY, MOST}
use Rattle.brep_walk.specs.Places.{faces, loops, shells}

abbrev pub items_if : {A : Type 0} → Bool → List A → List A
items_if true xs = xs
items_if false xs = []

-- the size of a record of n values: as many, and some more, which is less than what an entry's lines have beside them; nothing where there are none
abbrev pub record_size : ℕ → ℕ
record_size n = if n == 0 then 0 else n + ENTRY

unfoldable pub loop_size : Contents → ℤ → ℕ
loop_size f z = record_size (length (values_of f z))

unfoldable pub face_size : Contents → ℤ → ℕ
face_size f z = sum_by (loop_size f) (items_if (is_record_of face (values_of f z)) (loops f z))

unfoldable pub shell_size : Contents → ℤ → ℕ
shell_size f z = sum_by (λ (t : ℤ × Bool). face_size f t.0) (items_if (is_record_of shell (values_of f z)) (faces f z))

unfoldable pub solid_size : Contents → ℤ → ℕ
solid_size f z = sum_by (λ (t : ℤ × Bool). shell_size f t.0) (items_if (is_record_of solid (values_of f z)) (shells f z))

-- a size, or the most that is counted
unfoldable pub capped : ℕ → ℕ
capped n = min n MOST

-- at the place of each number the size of its entry
abbrev pub AreSizes : (ℤ → ℕ) → List ℕ → Type 0
AreSizes size sizes = (n : ℕ) (x : ℕ) → slice_get sizes n ≡ Some x → x ≡ capped (size (pos n))
