-- What a run owes.
use Rattle.std.specs.Prelude.{ℕ, List, Option}
use Rattle.iges_io.specs.Reading.{Told}
use Rattle.command_replies.specs.declared.answer.Answer.{Answer}
use Rattle.repair_commands.specs.Due.{Due}

-- the answer and the text are due for some bytes, which are those that the source gave where it gave any
pub record IsOwed (words : List (List ℕ)) (file : Option (List ℕ)) (answer : Answer) (text : List ℕ) : Type 0 where
  pub bytes : List ℕ
  pub told : Told file bytes
  pub due : Due words bytes answer text
