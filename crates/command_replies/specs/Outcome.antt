-- How far the sources were read, by the answer.
use Rattle.std.specs.Prelude.{◌⊎◌, ℕ, ◌<◌, ◌≤◌, List, length, Option}
use Rattle.std.specs.Io.KnownBytes.{IsAtEnd}
use Rattle.iges_base.specs.declared.TheConstants.{FILE_LIMIT}
use Rattle.iges_lines.specs.declared.fault.LineFault.{LineFault}
use Rattle.iges_params.specs.Refusal.{Refusal}
use Rattle.command_replies.specs.declared.answer.Answer.{Answer}
use Rattle.command_replies.specs.declared.answer.Answer.TheVariants.{Done, No, BadFile, NoExtract}

-- the file was read to its end, for the answers that judge it
abbrev pub ReadsWhole : Option (List ℕ) → Answer → Type 0
ReadsWhole left Done = IsAtEnd left
ReadsWhole left No = IsAtEnd left
ReadsWhole left BadFile = IsAtEnd left
ReadsWhole left NoExtract = IsAtEnd left
ReadsWhole left _ = Unit {0}

-- the certificate was read to its end, for the answers that judge it
abbrev pub ReadsCertificate : Option (List ℕ) → Answer → Type 0
ReadsCertificate left Done = IsAtEnd left
ReadsCertificate left No = IsAtEnd left
ReadsCertificate left _ = Unit {0}

-- the bytes are too many, or no file
abbrev pub IsNoFile : List ℕ → Type 0
IsNoFile bytes = (FILE_LIMIT < length bytes) ⊎ ((length bytes ≤ FILE_LIMIT) × (fault : LineFault) × Refusal bytes fault)
