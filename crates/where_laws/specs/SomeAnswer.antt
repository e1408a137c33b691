-- For any words and bytes some answer and text are owed.
use Rattle.std.specs.Prelude.{ℕ, List}
use Rattle.command_replies.specs.declared.answer.Answer.{Answer}
use Rattle.where_command.specs.Due.{Due}

abbrev pub SomeAnswerIsOwed : Type 0
SomeAnswerIsOwed = (words : List (List ℕ)) (bytes : List ℕ) → (a : Answer) × (t : List ℕ) × Due words bytes a t
