use Rattle.std.proofs.Common.{List, ℕ, subst}
use Rattle.std.proofs.lemmas.Result.{IfOk-weaker}
use Rattle.mended_commands.specs.Due.{OfTold, closed}
use Rattle.mended_commands.proofs.telling.tell_by_shells.Goals as goal

pub returns-in_ok-text-in-Closed : goal.returns-in_ok-text-in-Closed
returns-in_ok-text-in-Closed c =
    IfOk-weaker c.told.result _ _
    (λ reply owed. closed c.args.extraction.now.file c.requires.extracted.extracted (rw c.in-Closed.is at c.requires.shells)
    (subst (λ (x : List ℕ). OfTold c.args.extraction.now.file x reply.answer reply.text) c.in_ok-text-in-Closed.ensures owed)) c.told.ensures
