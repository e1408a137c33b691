-- The file of one solid, oriented.
use Rattle.std.specs.Prelude.{◌≡◌, ℕ, Bool, List}
use Rattle.iges_params.specs.Contents.{Contents}
use Rattle.solid_extract.specs.Extracted.{new_number, IsExtracted}
use Rattle.solid_reorient.specs.Fitting.{HasFlags}
use Rattle.solid_reorient.specs.Reflagged.{reflagged}

-- The solid n has flags, it is extracted, and in the extracted file its shells have these flags in place of their own.
pub record IsReoriented (f : Contents) (n : ℕ) (new : Contents) : Type 0 where
  pub flags : List (List Bool)
  pub fit : HasFlags f n flags
  pub «between» : Contents
  pub extracted : IsExtracted f n «between»
  pub is : new ≡ reflagged «between» (new_number extracted.kept n) flags
