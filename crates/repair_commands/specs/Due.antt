-- What is owed.
use Rattle.std.specs.Prelude.{◌≡◌, ◌≢◌, ◌⊎◌, ℕ, ◌<◌, ◌≤◌, List, [], length, Ok, Err, MatchOption}
use Rattle.iges_base.specs.declared.TheConstants.{FILE_LIMIT}
use Rattle.line_layout.specs.declared.fault.LayoutFault.{LayoutFault}
use Rattle.line_layout.specs.Relaid.{relaid}
use Rattle.command_replies.specs.declared.answer.Answer.{Answer}
use Rattle.command_replies.specs.declared.answer.Answer.TheVariants as answer
use Rattle.command_replies.specs.Due.{Owed, Exactly, OfFile}
use Rattle.mend_commands.specs.Due.{OfMend}
use Rattle.mended_commands.specs.Due.{OfMended}
use Rattle.repair_commands.specs.SolidDue.{OfReorient}
use Rattle.repair_commands.specs.declared.request.LineCommand.{LineCommand}
use Rattle.repair_commands.specs.declared.request.LineCommand.TheVariants as «line»
use Rattle.repair_commands.specs.declared.request.Request.{Request}
use Rattle.repair_commands.specs.declared.request.Request.TheVariants as request
use Rattle.repair_commands.specs.Request.{request_of, usage_line}
use Rattle.repair_commands.specs.Texts.{bad_layout_line, in_layout_line, changes_text}

-- the file in the layout of the fixed form, where it is within the limit
pub record IsLaid (bytes text : List ℕ) : Type 0 where
  pub few : length bytes ≤ FILE_LIMIT
  pub is : relaid bytes ≡ Ok text
  pub short : length text ≤ FILE_LIMIT

-- what is owed of bytes of which no such file is made
pub data OfNoLayout (bytes : List ℕ) : Answer → List ℕ → Type 0 where
  -- there are too many
  file_too_large : FILE_LIMIT < length bytes → OfNoLayout bytes answer.TooLarge []
  -- the content of a line can't be told apart
  bad_layout : length bytes ≤ FILE_LIMIT → (fault : LayoutFault) → relaid bytes ≡ Err fault → OfNoLayout bytes answer.BadFile (bad_layout_line fault)
  -- the file would be too large
  text_too_large : length bytes ≤ FILE_LIMIT → (text : List ℕ) → relaid bytes ≡ Ok text → FILE_LIMIT < length text → OfNoLayout bytes answer.TooLarge []

-- what is owed of bytes of which it is made
pub data OfLayout (bytes text : List ℕ) : LineCommand → Answer → List ℕ → Type 0 where
  -- the file
  relayout : OfLayout bytes text «line».Relayout answer.Done text
  -- it is the bytes themselves
  in_layout : bytes ≡ text → OfLayout bytes text «line».Layout answer.Done in_layout_line
  -- it isn't, and what is changed
  not_in_layout : bytes ≢ text → OfLayout bytes text «line».Layout answer.No (changes_text bytes)

-- what is owed of the lines of bytes
abbrev pub OfLines : LineCommand → List ℕ → Owed
OfLines c bytes a t = OfNoLayout bytes a t ⊎ ((text : List ℕ) × IsLaid bytes text × OfLayout bytes text c a t)

-- what is owed of a file's bytes
abbrev pub DueOf : Request → List ℕ → Owed
DueOf (request.Lines c) bytes = OfLines c bytes
DueOf (request.Reorient n) bytes = OfFile bytes (OfReorient n)
DueOf (request.Mend n choice) bytes = OfFile bytes (OfMend n)
DueOf (request.Mended n choice) bytes = OfFile bytes (OfMended n)

-- what is owed for these words and the file's bytes
abbrev pub Due : List (List ℕ) → List ℕ → Owed
Due words bytes a t = MatchOption (request_of words) (Exactly answer.Usage usage_line a t) (λ q. DueOf q bytes a t)
