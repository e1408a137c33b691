-- What a run owes.
use Rattle.std.specs.Prelude.{ℕ, List, Option}
use Rattle.iges_io.specs.Reading.{Told}
use Rattle.command_replies.specs.declared.answer.Answer.{Answer}
use Rattle.iges_solid_cmd.specs.Due.{Due}

-- the answer and the text are due for some bytes, which are those that the sources gave where they gave any
pub record IsOwed (words : List (List ℕ)) (file certificate : Option (List ℕ)) (answer : Answer) (text : List ℕ) : Type 0 where
  pub file_bytes : List ℕ
  pub file_told : Told file file_bytes
  pub certificate_bytes : List ℕ
  pub certificate_told : Told certificate certificate_bytes
  pub due : Due words file_bytes certificate_bytes answer text
