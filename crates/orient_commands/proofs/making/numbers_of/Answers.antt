use Rattle.std.proofs.Common.{arith}
use Rattle.orient_commands.proofs.ShellSteps.{row_low}
use Rattle.orient_commands.proofs.making.numbers_of.Goals as goal

pub overflow_add-rows : goal.overflow_add-rows
overflow_add-rows c = let low = row_low c.args.rows.now c.rows.i c.rows-test.true c.requires in omega (arith, low)
