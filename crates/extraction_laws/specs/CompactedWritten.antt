-- The text that is written of a compacted solid, and the verdict on the file that it is.
use Rattle.std.specs.Prelude.{◌≡◌, ◌↔◌, ℕ, ◌≤◌, List, length}
use Rattle.iges_base.specs.declared.TheConstants.{FILE_LIMIT}
use Rattle.iges_params.specs.Contents.{Contents}
use Rattle.iges_params.specs.IsFile.{IsFile}
use Rattle.iges_params.specs.Made.{IsMade}
use Rattle.iges_params.specs.Refusal.{IsOnly}
use Rattle.iges_write.specs.Text.{IsText}
use Rattle.iges_write.specs.Writable.{IsWritable}
use Rattle.solid_data.specs.declared.verdict.Verdict.{Verdict}
use Rattle.solid_verdict.specs.Closed.{IsClosed, IsVerdictOn}
use Rattle.list_compact.specs.Compacted.{IsCompacted}
use Rattle.extraction_laws.specs.Compacted.{number_after, compacted_verdict}

-- What is compacted of a file that can be made can be made.
abbrev pub CompactedIsMade : Type 0
CompactedIsMade = (f new : Contents) (n : ℕ) → IsMade f → IsCompacted f n new → IsMade new

-- What is compacted of a file whose text reads back has a text that reads back.
abbrev pub CompactedIsWritable : Type 0
CompactedIsWritable = (f new : Contents) (n : ℕ) → IsWritable f → IsCompacted f n new → IsWritable new

-- The bytes are the file f, new is its solid n, compacted, and the text is that of new; both are within the limit of a file.
pub record IsWrittenOf (bytes : List ℕ) (f : Contents) (n : ℕ) (new : Contents) (text : List ℕ) : Type 0 where
  pub within : length bytes ≤ FILE_LIMIT
  pub file : IsFile bytes f
  pub compacted : IsCompacted f n new
  pub written : IsText new text
  pub text_within : length text ≤ FILE_LIMIT

-- The text is the compacted file, and no other file.
abbrev pub WrittenIsCompacted : Type 0
WrittenIsCompacted = (bytes text : List ℕ) (f new : Contents) (n : ℕ) → IsWrittenOf bytes f n new text → IsOnly (IsFile text) new

-- The verdict on the solid n of f is, renamed and at the rank of its place, the only verdict on that solid in another file.
pub record HasVerdictOf (f : Contents) (n : ℕ) (new : Contents) (c : IsCompacted f n new) (other : Contents) : Type 0 where
  pub verdict : (v : Verdict) → IsVerdictOn f n v → IsVerdictOn other (number_after f n new c n) (compacted_verdict f n new c v)
  pub only : (w : Verdict) → IsVerdictOn other (number_after f n new c n) w → (v : Verdict) × (w ≡ compacted_verdict f n new c v) × IsVerdictOn f n v
  pub closed : IsClosed f n ↔ IsClosed other (number_after f n new c n)

-- The text is exactly one file, and the solid has the verdict there that it had.
abbrev pub WrittenKeepsVerdict : Type 0
WrittenKeepsVerdict = (bytes text : List ℕ) (f new : Contents) (n : ℕ) (w : IsWrittenOf bytes f n new text)
    → (read : Contents) × IsOnly (IsFile text) read × HasVerdictOf f n new w.compacted read
