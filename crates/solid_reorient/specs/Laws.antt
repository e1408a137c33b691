-- What reflagging keeps.
use Rattle.std.specs.Prelude.{ℕ, Bool, List}
use Rattle.iges_params.specs.Contents.{Contents}
use Rattle.iges_params.specs.Made.{IsMade}
use Rattle.solid_reorient.specs.Reflagged.{reflagged}

-- A file that can be made can be made with other flags.
abbrev pub ReflaggedIsMade : Type 0
ReflaggedIsMade = (g : Contents) (n : ℕ) (flags : List (List Bool)) → IsMade g → IsMade (reflagged g n flags)
