use Rattle.repair_commands.specs.Due.{relayout}
use Rattle.repair_commands.proofs.replies.laid_reply.Goals as goal

pub returns-in-Relayout : goal.returns-in-Relayout
returns-in-Relayout c = rw c.in-Relayout.is relayout
