use Rattle.iges_base.specs.declared.TheConstants.{FILE_LIMIT}
use Rattle.command_replies.proofs.Replying.{too_large_owed}
use Rattle.command_replies.specs.Due.{OfNoFile, file_too_large}
use Rattle.command_replies.proofs.sources.file_in.Goals as goal

pub returns-in-Err-clause-found : goal.returns-in-Err-clause-found
returns-in-Err-clause-found g c =
    let large = rw c.in-Err.is at (c.in_ok-feed.ensures {u = tt}).found in
    too_large_owed FILE_LIMIT OfNoFile _ c.in-Err.reply (λ bytes many. file_too_large many) large
