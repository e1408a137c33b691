use Rattle.std.proofs.lemmas.Result.{IfOk-weaker}
use Rattle.mended_commands.specs.Due.{placed}
use Rattle.mended_commands.proofs.telling.tell.Goals as goal

pub returns-in-Placed : goal.returns-in-Placed
returns-in-Placed c = IfOk-weaker c.tell_here.result _ _ (λ reply owed. placed owed) c.tell_here.ensures
