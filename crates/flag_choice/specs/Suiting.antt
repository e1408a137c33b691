-- Flags for the faces of a solid's shells under which it is oriented.
use Rattle.std.specs.Prelude.{◌≡◌, ℕ, Bool, List, length, Some, slice_get}
use Rattle.solid_data.specs.SolidData.{SolidData}
use Rattle.orient_certificate.specs.Partners.{AllHaveTwoRows, AllReached}
use Rattle.orient_certificate.specs.Flags.{face_flags, rows_at, rows_with, PartnersDiffer, FlagsFit}
use Rattle.flag_choice.specs.Choice.{chosen}

-- One flag for each face of shell k, under which the two uses of each edge run in opposite directions.
pub record FlagsOrient (s : SolidData) (k : ℕ) (flags : List Bool) : Type 0 where
  pub each : length flags ≡ length (face_flags (slice_get s.shells k))
  pub differ : PartnersDiffer (rows_with s k flags)

-- COUNT and REACH hold of shell k, a list of flags fits, and of this and its reverse the flags are the one that is chosen.
pub record FlagsSuit (s : SolidData) (k : ℕ) (flags : List Bool) : Type 0 where
  pub counted : AllHaveTwoRows (rows_at s k)
  pub reached : AllReached (rows_at s k)
  pub kept : List Bool
  pub fit : FlagsFit s k kept
  pub choice : flags ≡ chosen (face_flags (slice_get s.shells k)) kept

-- There is a list for each shell, and it suits the shell.
pub record AllSuit (s : SolidData) (flags : List (List Bool)) : Type 0 where
  pub each : length flags ≡ length s.shells
  pub suit : (k : ℕ) (x : List Bool) → slice_get flags k ≡ Some x → FlagsSuit s k x
