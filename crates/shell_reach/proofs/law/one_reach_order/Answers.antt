use Rattle.shell_reach.proofs.OneOrder.{one_order}
use Rattle.shell_reach.proofs.law.one_reach_order.Goals as goal

pub returns : goal.returns
returns c = one_order
