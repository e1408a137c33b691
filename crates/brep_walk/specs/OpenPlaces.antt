-- The obligations on the records of a shell that may be open, in order, and the shell as a solid.
use Rattle.std.specs.Prelude.{◌≡◌, ℕ, ℤ, pos, true, List, [], ◌∷◌, ◌++◌, ◌⊎◌, IsSomeAnd}
use Rattle.iges_params.specs.Contents.{Contents}
use Rattle.iges_params.specs.Named.{named}
use Rattle.brep_lists.specs.Record.{type_number}
use Rattle.brep_lists.specs.declared.entity_kind.EntityKind.TheVariants.{Shell as shell}
use Rattle.brep_walk.specs.Places.{Names, HasRecordOf, faces, face_places}
use Rattle.brep_walk.specs.SolidOf.{solid_listing}
use Rattle.solid_data.specs.Obligations.{Obligation, obligation, after_each}
use Rattle.solid_data.specs.SolidData.{SolidData}
use Rattle.solid_data.specs.declared.verdict.Rule.TheVariants.{NoEntry, WrongKind, BadLayout}

-- a shell of form 1 is said to be closed, one of form 2 to be open
abbrev pub NamesShell : Contents → ℤ → Type 0
NamesShell f number = IsSomeAnd (named f number) (λ e. (e.0.kind ≡ type_number shell) × ((e.0.form ≡ pos 1) ⊎ (e.0.form ≡ pos 2)))

-- The entry is there, and it is a shell of either form.
abbrev pub shell_entry_places : Contents → ℕ → List Obligation
shell_entry_places f n = obligation NoEntry n 0 (Names f (pos n)) ∷ obligation WrongKind n 0 (NamesShell f (pos n)) ∷ []

-- Its record describes faces.
abbrev pub shell_record_places : Contents → ℕ → List Obligation
shell_record_places f n = shell_entry_places f n ++ (obligation BadLayout n 0 (HasRecordOf shell f (pos n)) ∷ [])

-- The obligations of shell n, depth first.
unfoldable pub open_places : Contents → ℕ → List Obligation
open_places f n = shell_record_places f n ++ after_each (face_places f (pos n) []) [] (faces f (pos n))

-- The solid whose number is the shell's, and whose one shell it is, with its faces as they are listed.
abbrev pub shell_solid_of : Contents → ℕ → SolidData
shell_solid_of f n = solid_listing f n ((pos n, true) ∷ [])
