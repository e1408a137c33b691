-- What is answered of a shell, and the printed names of the rules.
use Rattle.std.specs.Prelude.{ℕ, List, codes, ◌≡◌, ◌⊎◌, ⊤, Some, slice_get, Result, Ok, Err}
use Rattle.orient_certificate.specs.declared.fault.OrientRule.{OrientRule}
use Rattle.orient_certificate.specs.declared.fault.OrientRule.TheVariants.{Count, Reach}
use Rattle.solid_data.specs.Obligations.{FirstNot}
use Rattle.solid_data.specs.Ring.{numbers_from}
use Rattle.solid_data.specs.SolidData.{SolidData, edge_name}
use Rattle.solid_data.specs.declared.solid.FaceUse.{FaceUse}
use Rattle.solid_data.specs.declared.solid.Shell.{Shell}
use Rattle.orient_certificate.specs.Partners.{HasTwoRows, AllHaveTwoRows, IsReached}
use Rattle.orient_certificate.specs.Flags.{rows_at, FlagsFit}
use Rattle.orient_certificate.specs.OddRing.{OddRing, row_numbers}
use Rattle.orient_certificate.specs.declared.fault.OrientFailing.{OrientFailing}
use Rattle.orient_certificate.specs.declared.fault.OrientFault.{OrientFault}
use Rattle.orient_certificate.specs.declared.fault.OrientFault.TheVariants.{Fails, NoMemory}
use Rattle.orient_certificate.specs.declared.lists.Orientation.{Orientation}
use Rattle.orient_certificate.specs.declared.lists.Orientation.TheVariants.{Flags, Ring}

abbrev pub IsOrientation : SolidData → ℕ → Orientation → Type 0
IsOrientation s k (Flags x) = FlagsFit s k x
IsOrientation s k (Ring rows) = OddRing s k (row_numbers rows)

-- x names the first edge that hasn't two rows, by number: its list, and its index there
pub record CountFails (s : SolidData) (k : ℕ) (x : OrientFailing) : Type 0 where
  pub edge : ℕ
  pub first : FirstNot (HasTwoRows (rows_at s k)) (rows_at s k).edges edge
  pub named : x ≡ record { rule = Count; entity = (edge_name (slice_get s.edges edge)).«list»; place = (edge_name (slice_get s.edges edge)).index }

-- x names the first face that isn't reached
pub record ReachFails (s : SolidData) (k : ℕ) (x : OrientFailing) : Type 0 where
  pub shell : Shell
  pub at : slice_get s.shells k ≡ Some shell
  pub number : ℕ
  pub first : FirstNot (IsReached (rows_at s k)) (numbers_from 0 (rows_at s k).face_count) number
  pub face : FaceUse
  pub face_at : slice_get shell.faces number ≡ Some face
  pub named : x ≡ record { rule = Reach; entity = face.entity; place = 0 }

-- x is the first rule that fails: COUNT over the edges that occur in the shell, then REACH over its faces
abbrev pub IsFirstFailing : SolidData → ℕ → OrientFailing → Type 0
IsFirstFailing s k x = CountFails s k x ⊎ (AllHaveTwoRows (rows_at s k) × ReachFails s k x)

-- what a fault says, by what Fails may name
abbrev pub IsFault : (OrientFailing → Type 0) → OrientFault → Type 0
IsFault Named (Fails x) = Named x
IsFault Named NoMemory = ⊤

-- nothing but that memory ran out
abbrev pub IsNoMemory : OrientFault → Type 0
IsNoMemory (Fails x) = ⊥
IsNoMemory NoMemory = ⊤

-- It fails so, unless memory ran out.
abbrev pub FailsSo : {A : Type 0} → OrientFailing → Result A OrientFault → Type 0
FailsSo x (Ok made) = ⊥
FailsSo x (Err (Fails y)) = y ≡ x
FailsSo x (Err NoMemory) = ⊤

abbrev pub rule_name : OrientRule → List ℕ
rule_name Count = codes "COUNT"
rule_name Reach = codes "REACH"
