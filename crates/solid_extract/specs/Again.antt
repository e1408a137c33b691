-- A solid that is extracted again is the same file.
use Rattle.std.specs.Prelude.{ℕ}
use Rattle.iges_params.specs.Contents.{Contents}
use Rattle.solid_extract.specs.Extracted.{new_number, IsExtracted}

abbrev pub ExtractedAgain : Type 0
ExtractedAgain = (f new : Contents) (n : ℕ) (x : IsExtracted f n new) → IsExtracted new (new_number x.kept n) new
