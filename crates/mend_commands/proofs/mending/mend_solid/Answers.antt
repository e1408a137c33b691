use Rattle.std.proofs.lemmas.Result.{IfOk-weaker}
use Rattle.mend_commands.specs.Due.{placed}
use Rattle.mend_commands.proofs.mending.mend_solid.Goals as goal

pub returns-in-Placed : goal.returns-in-Placed
returns-in-Placed c =
    IfOk-weaker c.mend_placed.result _ _ (λ reply owed. placed owed) (c.mend_placed.ensures (rw c.in-Placed.is at c.in_ok-failing.ensures))
