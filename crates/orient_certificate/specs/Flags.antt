-- Flags for the faces of a shell.
use Rattle.std.specs.Prelude.{◌≡◌, ℕ, Bool, not, List, [], ◌∷◌, length, map, Option, Some, None, slice_get, option_map}
use Rattle.solid_data.specs.SolidData.{SolidData}
use Rattle.solid_data.specs.declared.solid.FaceUse.{FaceUse}
use Rattle.solid_data.specs.declared.solid.Shell.{Shell}
use Rattle.edge_uses.specs.declared.row.Row.{Row}
use Rattle.edge_uses.specs.ShellRows.{ShellRows, rows_of}
use Rattle.orient_certificate.specs.Partners.{ArePartners}

abbrev pub face_flags : Option Shell → List Bool
face_flags None = []
face_flags (Some h) = map (λ (f : FaceUse). f.flag) h.faces

-- faces with other flags, one for each
abbrev pub faces_with : List Bool → List FaceUse → List FaceUse
faces_with [] faces = []
faces_with (flag ∷ flags) [] = []
faces_with (flag ∷ flags) (f ∷ faces) = record { entity = f.entity; flag = flag; loops = f.loops } ∷ faces_with flags faces

-- a shell with these flags in place of its faces'
abbrev pub shell_with : List Bool → Shell → Shell
shell_with flags h = record { entity = h.entity; flag = h.flag; faces = faces_with flags h.faces }

-- the rows of shell k, and its rows with these flags in place of its faces'
abbrev pub rows_at : SolidData → ℕ → ShellRows
rows_at s k = rows_of s (slice_get s.shells k)

abbrev pub rows_with : SolidData → ℕ → List Bool → ShellRows
rows_with s k flags = rows_of s (option_map (shell_with flags) (slice_get s.shells k))

-- partners run in different directions
abbrev pub PartnersDiffer : ShellRows → Type 0
PartnersDiffer d = (r m : ℕ) (a b : Row) → ArePartners d r m → slice_get d.rows r ≡ Some a → slice_get d.rows m ≡ Some b → a.along ≡ not b.along

-- One flag for each face of shell k, the first one the first face's own, under which partners run in different directions.
pub record FlagsFit (s : SolidData) (k : ℕ) (flags : List Bool) : Type 0 where
  pub each : length flags ≡ length (face_flags (slice_get s.shells k))
  pub first : slice_get flags 0 ≡ slice_get (face_flags (slice_get s.shells k)) 0
  pub differ : PartnersDiffer (rows_with s k flags)
