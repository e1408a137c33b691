use Rattle.iges_base.specs.declared.TheConstants.{FILE_LIMIT}
use Rattle.command_replies.proofs.Replying.{too_large_owed}
use Rattle.where_command.specs.Due.{OfNoFile, file_too_large}
use Rattle.where_command.proofs.reading.file_in.Goals as goal

pub returns-in-Err-clause-found : goal.returns-in-Err-clause-found
returns-in-Err-clause-found g c = too_large_owed FILE_LIMIT OfNoFile _ c.in-Err.reply (λ bytes more. file_too_large more)
    (rw c.in-Err.is at c.in_ok-bytes.ensures.found)
