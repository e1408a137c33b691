use Rattle.command_replies.proofs.Replying.{reply_owed}
use Rattle.command_replies.specs.declared.answer.Answer.TheVariants as answer
use Rattle.file_replies.specs.Written.{no_extract_line}
use Rattle.mend_commands.specs.Due.{OfPlaced}
use Rattle.mend_commands.specs.Due as due
use Rattle.mend_commands.proofs.mending.not_extracted.Goals as goal

pub returns-in-Refused : goal.returns-in-Refused
returns-in-Refused c f n twice is =
    reply_owed (OfPlaced n f twice) answer.NoExtract (no_extract_line c.in-Refused.entity.0 c.in-Refused.reason) c.refused.result
    (due.not_extracted c.in-Refused.entity.0 c.in-Refused.reason (rw c.in-Refused.is at is)) c.refused.ensures
