-- What is owed of extracting a solid.
use Rattle.std.specs.Prelude.{ℕ, List}
use Rattle.iges_params.specs.Contents.{Contents}
use Rattle.entry_references.specs.declared.fault.ExtractReason.{ExtractReason}
use Rattle.solid_extract.specs.Extracted.{IsRefused, IsExtracted}
use Rattle.command_replies.specs.declared.answer.Answer.{Answer}
use Rattle.command_replies.specs.declared.answer.Answer.TheVariants as answer
use Rattle.file_replies.specs.Written.{OfWritten, no_extract_line}

-- what is owed of extracting a solid
pub data OfExtract (n : ℕ) (f : Contents) : Answer → List ℕ → Type 0 where
  -- it can't be: the first entity in the way, and why
  not_extracted : (entity : ℕ) (why : ExtractReason) → IsRefused f n entity why → OfExtract n f answer.NoExtract (no_extract_line entity why)
  -- what is owed of writing its file
  extracted : {a : Answer} {t : List ℕ} (new : Contents) → IsExtracted f n new → OfWritten new a t → OfExtract n f a t
