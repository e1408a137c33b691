-- What is owed of writing a file, and the line of a solid that can't be extracted.
use Rattle.std.specs.Prelude.{ℕ, ◌<◌, ◌≤◌, List, [], ◌++◌, codes, decimal, length}
use Rattle.iges_base.specs.declared.TheConstants.{FILE_LIMIT}
use Rattle.iges_params.specs.Contents.{Contents}
use Rattle.iges_write.specs.Text.{IsText}
use Rattle.entry_references.specs.declared.fault.ExtractReason.{ExtractReason}
use Rattle.entry_references.specs.declared.fault.ExtractReason.TheVariants as extracting
use Rattle.command_replies.specs.declared.answer.Answer.{Answer}
use Rattle.command_replies.specs.declared.answer.Answer.TheVariants as answer

-- what is owed of writing a file
pub data OfWritten (f : Contents) : Answer → List ℕ → Type 0 where
  -- its text is too large
  too_large : (text : List ℕ) → IsText f text → FILE_LIMIT < length text → OfWritten f answer.TooLarge []
  -- it is not, and is the text that is owed
  written : (text : List ℕ) → IsText f text → length text ≤ FILE_LIMIT → OfWritten f answer.Done text

abbrev pub extract_word : ExtractReason → List ℕ
extract_word extracting.NotSolid = codes "not-solid"
extract_word extracting.Unlisted = codes "unlisted"
extract_word extracting.Layout = codes "layout"
extract_word extracting.Dangling = codes "dangling"

abbrev pub no_extract_line : ℕ → ExtractReason → List ℕ
no_extract_line entity why = codes "no extract " ++ decimal entity ++ codes " " ++ extract_word why ++ codes "\n"
