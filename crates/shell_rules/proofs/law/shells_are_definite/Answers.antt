use Rattle.shell_rules.specs.ShellObligations.{solid_obligations}
use Rattle.solid_data.proofs.ObligationLemmas.{FirstFalse-one}
use Rattle.solid_data.proofs.ObligationsDecided.{all_or_first_false}
use Rattle.shell_rules.proofs.ClosedLemmas.{closed_is_all_hold}
use Rattle.shell_rules.proofs.Decided.{solid_decided}
use Rattle.shell_rules.proofs.law.shells_are_definite.Goals as goal

pub returns-clause-closed : goal.returns-clause-closed
returns-clause-closed c = closed_is_all_hold

pub returns-clause-one : goal.returns-clause-one
returns-clause-one c s x y = FirstFalse-one (solid_obligations s) x y

pub returns-clause-always : goal.returns-clause-always
returns-clause-always c s = all_or_first_false (solid_obligations s) (solid_decided s)
