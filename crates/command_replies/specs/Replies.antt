-- Replies.
use Rattle.std.specs.Prelude.{◌≡◌, ℕ, ◌+◌, ◌<◌, ◌≤◌, List, [], length, Option, Result, MatchResult}
use Rattle.iges_base.specs.declared.TheConstants.{FILE_LIMIT}
use Rattle.iges_io.specs.Faults.{Rose}
use Rattle.iges_io.specs.Reading.{TakesAtMost, Told}
use Rattle.iges_io.specs.declared.reading.TheConstants.{PIECE}
use Rattle.iges_lines.specs.Feeding.{Fed, IsFed}
use Rattle.iges_params.specs.Contents.{Contents}
use Rattle.iges_params.specs.IsFile.{IsFile}
use Rattle.command_replies.specs.declared.answer.Answer.TheVariants.{TooLarge}
use Rattle.command_replies.specs.declared.reply.Reply.{Reply}
use Rattle.command_replies.specs.declared.reply.Stop.{Stop}
use Rattle.command_replies.specs.declared.reply.Stop.TheVariants as stops
use Rattle.command_replies.specs.Due.{Owed, Exactly}

-- the reply is owed for some bytes, which are those that the source gave where it gave any
pub record IsReply (owed_of : List ℕ → Owed) (left : Option (List ℕ)) (reply : Reply) : Type 0 where
  pub bytes : List ℕ
  pub told : Told left bytes
  pub owed : owed_of bytes reply.answer reply.text

-- so many bytes came, and no more than the limit
pub record AreWithin (limit : ℕ) (left : Option (List ℕ)) (bytes : List ℕ) : Type 0 where
  pub told : Told left bytes
  pub few : length bytes ≤ limit

-- more bytes than the limit came, and the reply says so
abbrev pub IsTooLarge : ℕ → List ℕ → Owed
IsTooLarge limit bytes a t = (limit < length bytes) × Exactly TooLarge [] a t

-- the feed stands for the bytes that came
pub record IsFedTold (left : Option (List ℕ)) (feed : Fed) : Type 0 where
  pub bytes : List ℕ
  pub told : Told left bytes
  pub few : length bytes ≤ FILE_LIMIT
  pub fed : IsFed feed bytes

-- the bytes that came are a file with these contents
pub record IsFileTold (left : Option (List ℕ)) (f : Contents) : Type 0 where
  pub bytes : List ℕ
  pub told : Told left bytes
  pub few : length bytes ≤ FILE_LIMIT
  pub is : IsFile bytes f

abbrev pub CountAfterStop : ℕ → ℕ → Stop → Type 0
CountAfterStop before now stops.ReadFault = Rose before now
CountAfterStop before now stops.OutOfMemory = now ≡ before

-- the source's count after the call
abbrev pub CountAfterCall : {T : Type 0} → ℕ → ℕ → Result T Stop → Type 0
CountAfterCall before now result = MatchResult result (λ _. now ≡ before) (CountAfterStop before now)

-- what a call took off a source that has this limit: at most one piece more, and where it stopped no more than the limit
abbrev pub TakesWithin : {T : Type 0} → ℕ → Option (List ℕ) → Option (List ℕ) → Result T Stop → Type 0
TakesWithin limit before after result = MatchResult result (λ _. TakesAtMost (limit + PIECE) before after) (λ _. TakesAtMost limit before after)
