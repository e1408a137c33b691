-- The values of shells and of solids after the change.
use Rattle.std.specs.Prelude.{ℕ, ◌+◌, ◌*◌, Bool, List, [], ◌∷◌, ◌++◌, length, take, drop, flat_map}
use Rattle.iges_fields.specs.declared.value.Value.{Value}
use Rattle.brep_lists.specs.Record.{count_at}
use Rattle.changed_records.specs.declared.shells.FaceFlag.{FaceFlag}
use Rattle.changed_records.specs.Values.{number_value, flag_value}

-- a number and a flag
abbrev pub pair_values : FaceFlag → List Value
pair_values p = number_value p.number ∷ flag_value p.flag ∷ []

-- a shell with these faces
unfoldable pub new_shell_values : List FaceFlag → List Value
new_shell_values fs = number_value (length fs) ∷ flat_map pair_values fs

-- the same in place of its own faces, before what follows these
unfoldable pub shell_values : List Value → List FaceFlag → List Value
shell_values vs fs = new_shell_values fs ++ drop (1 + 2 * count_at vs 0) vs

-- a solid with this outer shell, and no voids
unfoldable pub new_solid_values : FaceFlag → List Value
new_solid_values outer = pair_values outer ++ number_value 0 ∷ []

-- a solid with these voids behind all its own
unfoldable pub solid_values : List Value → List FaceFlag → List Value
solid_values vs voids =
    take 2 vs ++ number_value (count_at vs 2 + length voids) ∷ take (2 * count_at vs 2) (drop 3 vs) ++ flat_map pair_values voids
    ++ drop (3 + 2 * count_at vs 2) vs
