-- A shell as steps between its faces.
use Rattle.std.specs.Prelude.{◌≡◌, ℕ, ◌<◌, Bool, List, length, map, slice_get, Some}
use Rattle.solid_data.specs.SolidData.{SolidData, same_flag}
use Rattle.solid_data.specs.declared.solid.FaceUse.{FaceUse}
use Rattle.solid_data.specs.declared.solid.Shell.{Shell}
use Rattle.edge_uses.specs.ShellRows.{ShellRows}
use Rattle.orient_certificate.specs.declared.crossing.Crossing.{Crossing}
use Rattle.orient_certificate.specs.declared.lists.Orientation.{Orientation}
use Rattle.orient_certificate.specs.declared.lists.Orientation.TheVariants.{Flags, Ring}
use Rattle.orient_certificate.specs.Partners.{AllHaveTwoRows}
use Rattle.orient_certificate.specs.Flags.{rows_at, face_flags}
use Rattle.orient_certificate.specs.OddRing.{row_numbers}
use Rattle.orient_certificate.specs.Crossings.{AreCrossings, IsGraph, IsStep, AllAgree, IsOddWalk}
use Rattle.solid_data.specs.declared.TheConstants.{PART_LIMIT}

-- the steps of shell k, how many faces it has, and the first one's flag
pub record IsGraphOf (s : SolidData) (k : ℕ) (cs : List Crossing) (n : ℕ) (first : Bool) : Type 0 where
  pub two : AllHaveTwoRows (rows_at s k)
  pub crossings : AreCrossings s k cs
  pub graph : IsGraph n cs
  pub faces : n ≡ length (face_flags (slice_get s.shells k))
  pub counted : n ≡ (rows_at s k).face_count
  pub own : slice_get (face_flags (slice_get s.shells k)) 0 ≡ Some first
  pub some : 0 < n
  pub few : n < PART_LIMIT
  pub few_steps : length cs < PART_LIMIT

-- the steps of a shell's rows, of which each edge has two
pub record AreStepsOf (h : Shell) (d : ShellRows) (cs : List Crossing) : Type 0 where
  pub two : AllHaveTwoRows d
  pub each : length cs ≡ length d.rows
  pub steps : (r : ℕ) (c : Crossing) → slice_get cs r ≡ Some c → IsStep d (map (λ (f : FaceUse). same_flag f.flag h.flag) h.faces) r c

-- flags that agree with each step
pub record Suit (cs : List Crossing) (n : ℕ) (first : Bool) (flags : List Bool) : Type 0 where
  pub each : length flags ≡ n
  pub own : slice_get flags 0 ≡ Some first
  pub agree : AllAgree flags cs

abbrev pub IsFound : List Crossing → ℕ → Bool → Orientation → Type 0
IsFound cs n first (Flags flags) = Suit cs n first flags
IsFound cs n first (Ring rows) = IsOddWalk cs (row_numbers rows)
