-- How a run may end, and what it has written by then.
use Rattle.std.specs.Prelude.{◌≡◌, ◌⊎◌, ℕ, ◌<◌, List, length, take, Option}
use Rattle.std.specs.Io.KnownBytes.{Appends, Keeps}
use Rattle.iges_io.specs.Faults.{Rose}
use Rattle.command_replies.specs.Due.{Owed}
use Rattle.command_replies.specs.declared.answer.Answer.{Answer}
use Rattle.command_replies.specs.declared.answer.Answer.TheVariants.{Usage, ReadFault, WriteFault, NoMemory}

-- exactly a text that is owed with this answer was appended
pub record Answers (owes : Owed) (before after : Option (List ℕ)) (answer : Answer) : Type 0 where
  pub text : List ℕ
  pub owed : owes answer text
  pub appended : Appends before after text

-- of a text that is owed a shorter prefix was appended
pub record IsCutShort (owes : Owed) (before after : Option (List ℕ)) : Type 0 where
  pub answer : Answer
  pub text : List ℕ
  pub owed : owes answer text
  pub count : ℕ
  pub shorter : count < length text
  pub appended : Appends before after (take count text)

-- What a run answers, and what it appended: for what is owed, and what was written before and after it.
abbrev pub Outcome : Owed → Option (List ℕ) → Option (List ℕ) → Answer → Type 0
Outcome owes before after WriteFault = IsCutShort owes before after
Outcome owes before after ReadFault = Keeps before after
Outcome owes before after NoMemory = Keeps before after
Outcome owes before after answer = Answers owes before after answer

-- the answers to words of a listed form where nothing failed
abbrev pub IsComplete : Answer → Type 0
IsComplete Usage = ⊥
IsComplete ReadFault = ⊥
IsComplete WriteFault = ⊥
IsComplete _ = Unit {0}

-- a shorter prefix of the text was appended, and the count rose
pub record Stops (before after : Option (List ℕ)) (faults now : ℕ) (text : List ℕ) : Type 0 where
  pub count : ℕ
  pub shorter : count < length text
  pub appended : Appends before after (take count text)
  pub rose : Rose faults now

-- the text was appended and the answer is given, or a write failed
abbrev pub Finishes : Option (List ℕ) → Option (List ℕ) → ℕ → ℕ → Answer → List ℕ → Answer → Type 0
Finishes before after faults now answer text result =
    ((result ≡ answer) × Appends before after text × (now ≡ faults)) ⊎ ((result ≡ WriteFault) × Stops before after faults now text)
