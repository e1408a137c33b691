-- A solid with other flags for the faces of its shells.
use Rattle.std.specs.Prelude.{◌≡◌, Bool, List, [], ◌∷◌, length}
use Rattle.std.specs.List.{AllZip}
use Rattle.orient_certificate.specs.Flags.{shell_with}
use Rattle.solid_data.specs.SolidData.{SolidData}
use Rattle.solid_data.specs.declared.solid.Shell.{Shell}

-- shells with these flags in place of their faces', one list for each
abbrev pub turned_shells : List (List Bool) → List Shell → List Shell
turned_shells [] shells = []
turned_shells (flags ∷ rest) [] = []
turned_shells (flags ∷ rest) (h ∷ shells) = shell_with flags h ∷ turned_shells rest shells

-- the solid with these flags in place of its faces'
abbrev pub turned : List (List Bool) → SolidData → SolidData
turned flags s = record { entity = s.entity; shells = turned_shells flags s.shells; edges = s.edges; vertices = s.vertices }

-- one list for each shell, of one flag for each face
abbrev pub AreListsFor : List (List Bool) → List Shell → Type 0
AreListsFor flags shells = AllZip (λ (x : List Bool) (h : Shell). length x ≡ length h.faces) flags shells
