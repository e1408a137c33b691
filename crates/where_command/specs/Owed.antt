-- What a run owes.
use Rattle.std.specs.Prelude.{ℕ, ◌≤◌, List, length, Option}
use Rattle.iges_io.specs.Reading.{Told}
use Rattle.command_replies.specs.declared.answer.Answer.{Answer}
use Rattle.iges_base.specs.declared.TheConstants.{FILE_LIMIT}
use Rattle.where_places.specs.declared.placed_file.PlacedFile.{PlacedFile}
use Rattle.where_places.specs.PlacedFiles.{IsPlacedFile}
use Rattle.where_command.specs.Due.{Due}

-- the answer and the text are due for some bytes, which are those that the source gave where it gave any
pub record IsOwed (words : List (List ℕ)) (file : Option (List ℕ)) (answer : Answer) (text : List ℕ) : Type 0 where
  pub bytes : List ℕ
  pub told : Told file bytes
  pub due : Due words bytes answer text

-- the bytes that came are this file
pub record IsPlacedTold (left : Option (List ℕ)) (p : PlacedFile) : Type 0 where
  pub bytes : List ℕ
  pub told : Told left bytes
  pub few : length bytes ≤ FILE_LIMIT
  pub is : IsPlacedFile bytes p
