use Rattle.std.proofs.lemmas.Result.{IfOk-weaker}
use Rattle.mend_commands.specs.Due.{closed}
use Rattle.mend_commands.proofs.mending.by_shells.Goals as goal

pub returns-in-Closed : goal.returns-in-Closed
returns-in-Closed c f n fares is =
    IfOk-weaker c.written.result _ _ (λ reply owed. closed c.args.extraction.file is.extracted (rw c.in-Closed.is at fares) owed) c.written.ensures

pub returns-in-Fails : goal.returns-in-Fails
returns-in-Fails c f n fares is = c.mend_extracted.ensures f n c.in-Fails.failing c.args.twice (rw c.in-Fails.is at fares) c.unwrap_or.ensures is
