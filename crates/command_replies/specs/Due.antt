-- What may be owed: an answer and a text.
use Rattle.std.specs.Prelude.{◌≡◌, ◌⊎◌, ℕ, ◌<◌, ◌≤◌, List, [], length}
use Rattle.iges_base.specs.declared.TheConstants.{FILE_LIMIT}
use Rattle.iges_lines.specs.declared.fault.LineFault.{LineFault}
use Rattle.iges_params.specs.Contents.{Contents}
use Rattle.iges_params.specs.IsFile.{IsFile}
use Rattle.iges_params.specs.Refusal.{Refusal}
use Rattle.cert_text.specs.declared.TheConstants.{CERT_LIMIT}
use Rattle.command_replies.specs.declared.answer.Answer.{Answer}
use Rattle.command_replies.specs.declared.answer.Answer.TheVariants as answer
use Rattle.command_replies.specs.Texts.{bad_file_line}

abbrev pub Owed : Type 1
Owed = Answer → List ℕ → Type 0

abbrev pub Exactly : Answer → List ℕ → Owed
Exactly a text = λ b t. (b ≡ a) × (t ≡ text)

-- what is owed of bytes that are no file to be judged
pub data OfNoFile (bytes : List ℕ) : Answer → List ℕ → Type 0 where
  -- there are too many
  file_too_large : FILE_LIMIT < length bytes → OfNoFile bytes answer.TooLarge []
  -- a line is bad
  bad_file : length bytes ≤ FILE_LIMIT → (fault : LineFault) → Refusal bytes fault → OfNoFile bytes answer.BadFile (bad_file_line fault)

-- what is owed of a file's bytes: that, or what is owed of the file
abbrev pub OfFile : List ℕ → (Contents → Owed) → Owed
OfFile bytes owed a t = OfNoFile bytes a t ⊎ ((length bytes ≤ FILE_LIMIT) × (f : Contents) × IsFile bytes f × owed f a t)

-- what is owed of a text that may be too large for a certificate
pub data OfText (text : List ℕ) : Answer → List ℕ → Type 0 where
  -- it is too large
  text_too_large : CERT_LIMIT < length text → OfText text answer.TooLarge []
  -- it is not, and is the text that is owed
  text_done : length text ≤ CERT_LIMIT → OfText text answer.Done text
