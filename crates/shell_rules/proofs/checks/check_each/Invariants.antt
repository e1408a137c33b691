use Rattle.edge_uses.specs.Before.{AreBelow}
use Rattle.shell_rules.specs.ShellObligations.{checked_of_shell, checked_obligations}
use Rattle.shell_rules.proofs.Shells.{RemainFrom}
use Rattle.shell_rules.proofs.checks.check_each.Given as goal

abbrev pub invariant-shells : goal.invariant-shells
invariant-shells l = record {
  left : RemainFrom (checked_of_shell l.solid) (checked_obligations l.solid) l.solid.shells l.k;
  before : AreBelow l.solid l.k l.before;
}
