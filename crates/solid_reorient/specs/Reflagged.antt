-- A file with other face flags in the records of a solid's shells.
use Rattle.std.specs.Prelude.{ℕ, ◌+◌, ◌*◌, Bool, if◌then◌else◌, ℤ, pos, List, [], ◌∷◌, map}
use Rattle.std.specs.List.{enumerate_from}
use Rattle.std.specs.Ordering.{int_eq}
use Rattle.iges_fields.specs.declared.value.Value.{Value}
use Rattle.iges_fields.specs.declared.value.Value.TheVariants as value
use Rattle.iges_params.specs.Contents.{Contents}
use Rattle.brep_lists.specs.Record.{type_number}
use Rattle.brep_lists.specs.declared.entity_kind.EntityKind.TheVariants.{Shell as shell}
use Rattle.brep_walk.specs.Places.{shells, numbers}
use Rattle.entry_references.specs.Refs.{Record}

-- the integer 1 or 0
abbrev pub flag_value : Bool → Value
flag_value b = value.Int (if b then pos 1 else pos 0)

-- Pairs of a face and its flag, with these flags in place of the first ones.
abbrev pub pairs_with : List Bool → List Value → List Value
pairs_with [] vs = vs
pairs_with (b ∷ bs) [] = []
pairs_with (b ∷ bs) (p ∷ []) = p ∷ []
pairs_with (b ∷ bs) (p ∷ v ∷ vs) = p ∷ flag_value b ∷ pairs_with bs vs

-- The values of a shell's record, a count and pairs, with these flags in place of the first ones.
abbrev pub values_with : List Bool → List Value → List Value
values_with flags [] = []
values_with flags (n ∷ vs) = n ∷ pairs_with flags vs

-- The flags for entry m, where these are the numbers of the shells that the lists of flags are for; none where m isn't among them.
abbrev pub flags_for : List (List Bool) → List ℤ → ℕ → List Bool
flags_for [] zs m = []
flags_for (x ∷ flags) [] m = []
flags_for (x ∷ flags) (z ∷ zs) m = if int_eq z (pos m) then x else flags_for flags zs m

-- only the values of a shell change
abbrev pub reflagged_values : List Bool → Record → List Value
reflagged_values flags r = if int_eq r.0.kind (type_number shell) then values_with flags r.1 else r.1

-- an entry, which is given with its place in the directory from 0
abbrev pub reflagged_record : List (List Bool) → List ℤ → ℕ × Record → Record
reflagged_record flags zs p = (p.1.0, reflagged_values (flags_for flags zs (2 * p.0 + 1)) p.1)

abbrev pub reflagged_entries : List (List Bool) → List ℤ → List Record → List Record
reflagged_entries flags zs rs = map (reflagged_record flags zs) (enumerate_from 0 rs)

-- The file in which the shells of solid n have these flags for their faces, one list for each shell, and all else is as it was.
unfoldable pub reflagged : Contents → ℕ → List (List Bool) → Contents
reflagged g n flags = record g { entries = reflagged_entries flags (numbers (shells g (pos n))) g.entries }
