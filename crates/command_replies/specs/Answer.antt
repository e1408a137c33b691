-- The status of each answer.
use Rattle.std.specs.Prelude.{ℕ}
use Rattle.command_replies.specs.declared.answer.Answer.{Answer}
use Rattle.command_replies.specs.declared.answer.Answer.TheVariants.{Done, No, Usage, BadFile, ReadFault, WriteFault, NoMemory, NoExtract, TooLarge}

abbrev pub code_of : Answer → ℕ
code_of Done = 0
code_of No = 1
code_of Usage = 2
code_of BadFile = 3
code_of ReadFault = 4
code_of WriteFault = 5
code_of NoMemory = 6
code_of NoExtract = 7
code_of TooLarge = 8
