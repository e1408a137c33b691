-- The text that is written of a reoriented solid.
use Rattle.std.specs.Prelude.{ℕ, ◌≤◌, List, length}
use Rattle.iges_base.specs.declared.TheConstants.{FILE_LIMIT}
use Rattle.iges_params.specs.Contents.{Contents}
use Rattle.iges_params.specs.IsFile.{IsFile}
use Rattle.iges_params.specs.Refusal.{IsOnly}
use Rattle.iges_write.specs.Text.{IsText}
use Rattle.iges_write.specs.Writable.{IsWritable}
use Rattle.solid_reorient.specs.Reoriented.{IsReoriented}

-- What is reoriented of a file whose text reads back has a text that reads back.
abbrev pub ReorientedIsWritable : Type 0
ReorientedIsWritable = (f new : Contents) (n : ℕ) → IsWritable f → IsReoriented f n new → IsWritable new

-- The bytes are the file f, new is its solid n, reoriented, and the text is that of new; both are within the limit of a file.
pub record IsWrittenOf (bytes : List ℕ) (f : Contents) (n : ℕ) (new : Contents) (text : List ℕ) : Type 0 where
  pub within : length bytes ≤ FILE_LIMIT
  pub file : IsFile bytes f
  pub reoriented : IsReoriented f n new
  pub written : IsText new text
  pub text_within : length text ≤ FILE_LIMIT

-- The text is the reoriented file, and no other file.
abbrev pub WrittenIsReoriented : Type 0
WrittenIsReoriented = (bytes text : List ℕ) (f new : Contents) (n : ℕ) → IsWrittenOf bytes f n new text → IsOnly (IsFile text) new
