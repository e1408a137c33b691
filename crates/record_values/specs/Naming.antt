-- Which places of a solid name its shells, faces and loops.
use Rattle.std.specs.Prelude.{ℕ, ℤ, Bool, List, [], ◌∷◌, flat_map, Option, Some, None, if◌then◌else◌}
use Rattle.std.specs.List.{enumerate_from}
use Rattle.std.specs.Ordering.{int_eq}
use Rattle.iges_params.specs.Contents.{Contents}
use Rattle.iges_params.specs.Named.{values_of}
use Rattle.brep_lists.specs.Record.{SolidItems, FaceItems}
use Rattle.brep_lists.specs.declared.entity_kind.EntityKind.TheVariants.{Solid as solid, Shell as shell, Face as face}
use Rattle.record_values.specs.Told.{told_in}
use Rattle.record_values.specs.declared.naming.Naming.{Naming}

-- the items of a record, none where it doesn't fit its type

abbrev pub shells_told : Option SolidItems → List (ℤ × Bool)
shells_told None = []
shells_told (Some s) = s.outer ∷ s.voids

abbrev pub faces_told : Option (List (ℤ × Bool)) → List (ℤ × Bool)
faces_told None = []
faces_told (Some items) = items

abbrev pub loops_told : Option FaceItems → List ℤ
loops_told None = []
loops_told (Some i) = i.loops

unfoldable pub shells_in : Contents → ℤ → List (ℤ × Bool)
shells_in f n = shells_told (told_in solid (values_of f n))

unfoldable pub faces_in : Contents → ℤ → List (ℤ × Bool)
faces_in f s = faces_told (told_in shell (values_of f s))

unfoldable pub loops_in : Contents → ℤ → List ℤ
loops_in f c = loops_told (told_in face (values_of f c))

-- an item, from 1, of the record of an entity names this number
pub record Names : Type 0 where
  pub number : ℤ
  pub naming : Naming

abbrev pub names : ℤ → ℕ → ℤ → Names
names entity item number = record { number = number; naming = record { entity = entity; item = item } }

-- the names in a face, in a shell and in a solid, depth first

abbrev pub names_in_face : Contents → ℤ → List Names
names_in_face f c = flat_map (λ (l : ℕ × ℤ). names c l.0 l.1 ∷ []) (enumerate_from 1 (loops_in f c))

abbrev pub names_in_shell : Contents → ℤ → List Names
names_in_shell f s = flat_map (λ (c : ℕ × (ℤ × Bool)). names s c.0 c.1.0 ∷ names_in_face f c.1.0) (enumerate_from 1 (faces_in f s))

abbrev pub names_in_solid : Contents → ℤ → List Names
names_in_solid f n = flat_map (λ (s : ℕ × (ℤ × Bool)). names n s.0 s.1.0 ∷ names_in_shell f s.1.0) (enumerate_from 1 (shells_in f n))

-- the first of these places that names the number
abbrev pub first_of : ℤ → List Names → Option Naming
first_of z [] = None
first_of z (x ∷ xs) = if int_eq x.number z then Some x.naming else first_of z xs

-- the first place of a solid that names the number
unfoldable pub first_naming : Contents → ℤ → ℤ → Option Naming
first_naming f n z = first_of z (names_in_solid f n)
