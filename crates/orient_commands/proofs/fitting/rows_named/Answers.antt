use Rattle.orient_commands.proofs.ShellSteps.{zero_never}
use Rattle.orient_commands.proofs.fitting.rows_named.Goals as goal

pub returns-then-number-eq0 : goal.returns-then-number-eq0
returns-then-number-eq0 c rows named = zero_never c.args.numbers.now c.numbers.i c.numbers-test.true c.if-number-eq0.true rows named
