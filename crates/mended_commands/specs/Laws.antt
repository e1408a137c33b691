-- What holds of telling how a solid is mended.
use Rattle.std.specs.Prelude.{ℕ, List}
use Rattle.iges_params.specs.Contents.{Contents}
use Rattle.iges_params.specs.Limits.{FitsLimits}
use Rattle.command_replies.specs.declared.answer.Answer.{Answer}
use Rattle.mended_commands.specs.Due.{OfMended}

-- Some answer is owed.
abbrev pub SomeMendedAnswer : Type 0
SomeMendedAnswer = (n : ℕ) (f : Contents) → FitsLimits f → (a : Answer) × (t : List ℕ) × OfMended n f a t
