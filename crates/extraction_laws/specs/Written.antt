-- The text that is written of an extracted solid, and the verdict on the file that it is.
use Rattle.std.specs.Prelude.{◌≡◌, ◌↔◌, ℕ, ◌≤◌, List, length}
use Rattle.iges_base.specs.declared.TheConstants.{FILE_LIMIT}
use Rattle.iges_params.specs.Contents.{Contents}
use Rattle.iges_params.specs.IsFile.{IsFile}
use Rattle.iges_params.specs.Refusal.{IsOnly}
use Rattle.iges_write.specs.Text.{IsText}
use Rattle.iges_write.specs.Writable.{IsWritable}
use Rattle.solid_data.specs.declared.verdict.Verdict.{Verdict}
use Rattle.solid_verdict.specs.Closed.{IsClosed, IsVerdictOn}
use Rattle.solid_extract.specs.Extracted.{new_number, IsExtracted}
use Rattle.extraction_laws.specs.KeptVerdict.{renamed_verdict}

-- What is extracted of a file whose text reads back has a text that reads back.
abbrev pub ExtractedIsWritable : Type 0
ExtractedIsWritable = (f new : Contents) (n : ℕ) → IsWritable f → IsExtracted f n new → IsWritable new

-- The bytes are the file f, new is its solid n, and the text is that of new; both are within the limit of a file.
pub record IsWrittenOf (bytes : List ℕ) (f : Contents) (n : ℕ) (new : Contents) (text : List ℕ) : Type 0 where
  pub within : length bytes ≤ FILE_LIMIT
  pub file : IsFile bytes f
  pub extracted : IsExtracted f n new
  pub written : IsText new text
  pub text_within : length text ≤ FILE_LIMIT

-- The text is the extracted file, and no other file.
abbrev pub WrittenIsExtracted : Type 0
WrittenIsExtracted = (bytes text : List ℕ) (f new : Contents) (n : ℕ) → IsWrittenOf bytes f n new text → IsOnly (IsFile text) new

-- The verdict on the solid n of f is, with the entity renamed, the only verdict on that solid in another file.
pub record HasVerdictOf (f : Contents) (n : ℕ) (kept : List ℕ) (other : Contents) : Type 0 where
  pub verdict : (v : Verdict) → IsVerdictOn f n v ↔ IsVerdictOn other (new_number kept n) (renamed_verdict kept v)
  pub only : (w : Verdict) → IsVerdictOn other (new_number kept n) w → (v : Verdict) × (w ≡ renamed_verdict kept v) × IsVerdictOn f n v
  pub closed : IsClosed f n ↔ IsClosed other (new_number kept n)

-- The text is exactly one file, and the solid has the verdict there that it had.
abbrev pub WrittenKeepsVerdict : Type 0
WrittenKeepsVerdict = (bytes text : List ℕ) (f new : Contents) (n : ℕ) (w : IsWrittenOf bytes f n new text)
    → (read : Contents) × IsOnly (IsFile text) read × HasVerdictOf f n w.extracted.kept read

-- Its solid, extracted again from the text, gives the same file and the same text, and no other.
abbrev pub WrittenAgain : Type 0
WrittenAgain = (bytes text : List ℕ) (f new : Contents) (n : ℕ) (w : IsWrittenOf bytes f n new text)
    → IsWrittenOf text new (new_number w.extracted.kept n) new text
    × ((again : Contents) (other : List ℕ) → IsExtracted new (new_number w.extracted.kept n) again → IsText again other → other ≡ text)
