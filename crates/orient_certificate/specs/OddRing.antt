-- Rings of rows that no flags satisfy.
use Rattle.std.specs.Prelude.{◌≡◌, ℕ, ◌<◌, ◌⊎◌, Bool, true, false, not, List, [], ◌∷◌, length, map, slice_get, Some, option_map}
use Rattle.std.specs.List.{AllZip}
use Rattle.solid_data.specs.Ring.{next_of_each}
use Rattle.solid_data.specs.SolidData.{SolidData}
use Rattle.solid_data.specs.declared.solid.FaceUse.{FaceUse}
use Rattle.solid_data.specs.declared.solid.RowId.{RowId}
use Rattle.solid_data.specs.declared.solid.Shell.{Shell}
use Rattle.edge_uses.specs.declared.row.Row.{Row}
use Rattle.edge_uses.specs.ShellRows.{ShellRows, rows_of}
use Rattle.edge_uses.specs.RowRelations.{OnFace}
use Rattle.orient_certificate.specs.Partners.{ArePartners}
use Rattle.orient_certificate.specs.Flags.{rows_at}

-- the shell with all flags true but those of its loops' tuples
abbrev pub bare_shell : Shell → Shell
bare_shell h = record { entity = h.entity; flag = true; faces = map (λ (f : FaceUse). record { entity = f.entity; flag = true; loops = f.loops }) h.faces }

-- the rows of shell k in their bare directions, which the tuples' flags alone give
abbrev pub bare_rows : SolidData → ℕ → ShellRows
bare_rows s k = rows_of s (option_map bare_shell (slice_get s.shells k))

-- next lies in the face of the partner of r
abbrev pub GoesOn : ShellRows → ℕ → ℕ → Type 0
GoesOn d r next = (m face : ℕ) × ArePartners d r m × OnFace d face m × OnFace d face next

-- The bare direction of the row is that of its partner.
pub record RunsAlike (s : SolidData) (k r : ℕ) : Type 0 where
  pub m : ℕ
  pub a : Row
  pub b : Row
  pub partners : ArePartners (rows_at s k) r m
  pub at_r : slice_get (bare_rows s k).rows r ≡ Some a
  pub at_m : slice_get (bare_rows s k).rows m ≡ Some b
  pub alike : a.along ≡ b.along

-- P holds of an odd number of items, or where odd is false of an even number
abbrev pub OddlyMany : {A : Type 0} → (A → Type 0) → Bool → List A → Type 0
OddlyMany P odd [] = odd ≡ false
OddlyMany P odd (x ∷ xs) = (P x × OddlyMany P (not odd) xs) ⊎ (¬ P x × OddlyMany P odd xs)

-- One or more rows of shell k. Each next one lies in the face of the partner of the one before, and the first in that of the last's. An odd number of them run
-- as their partners do.
pub record OddRing (s : SolidData) (k : ℕ) (rows : List ℕ) : Type 0 where
  pub some : 0 < length rows
  pub closed : AllZip (GoesOn (rows_at s k)) rows (next_of_each rows)
  pub odd : OddlyMany (RunsAlike s k) true rows

abbrev pub row_numbers : List RowId → List ℕ
row_numbers rows = map (λ (r : RowId). r.0) rows
