use Rattle.solid_data.proofs.Occurring.{next_number}
use Rattle.solid_data.proofs.numbers.numbers_below.Goals as goal

pub numbers-preserved : goal.numbers-preserved
numbers-preserved c = next_number c.numbers.i c.numbers.numbers.items c.push.new.self.items c.numbers.invariant c.in_ok-push.ensures.items
