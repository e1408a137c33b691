use Rattle.std.specs.Prelude.{IsTrue}
use Rattle.std.proofs.Common.{sym, ◌∙◌}
use Rattle.orient_certificate.specs.OddRing.{row_numbers}
use Rattle.orient_commands.proofs.ShellSteps.{name_ring}
use Rattle.orient_commands.proofs.fitting.ring_fits.Goals as goal

pub returns-in-Some : goal.returns-in-Some
returns-in-Some c = name_ring c.args.checker.now.solid c.args.checker.now.shell c.args.numbers.now (row_numbers c.in-Some.rows) (IsTrue c.ring.result)
    (sym c.as_slice.ensures ∙ rw c.in-Some.is at c.in_ok-rows.ensures) c.ring.ensures
