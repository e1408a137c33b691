-- What is extracted from a file that can be made can be made.
use Rattle.std.specs.Prelude.{ℕ}
use Rattle.iges_params.specs.Contents.{Contents}
use Rattle.iges_params.specs.Made.{IsMade}
use Rattle.solid_extract.specs.Extracted.{IsExtracted}

abbrev pub ExtractedIsMade : Type 0
ExtractedIsMade = (f new : Contents) (n : ℕ) → IsMade f → IsExtracted f n new → IsMade new
