use Rattle.shell_reach.proofs.SomeOrder.{some_order}
use Rattle.shell_reach.proofs.law.some_reach_order.Goals as goal

pub returns : goal.returns
returns c = some_order
