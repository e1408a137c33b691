use Rattle.orient_commands.specs.Shells.{IsCounted}
use Rattle.orient_commands.proofs.ShellSteps.{Below}
use Rattle.orient_commands.proofs.counting.count_shells.Given as goal

abbrev pub invariant-shells : goal.invariant-shells
invariant-shells l = Below IsCounted l.solid l.k
