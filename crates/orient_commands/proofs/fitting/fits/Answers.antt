use Rattle.std.proofs.Common.{refl}
use Rattle.orient_commands.proofs.ShellSteps.{ring_result}
use Rattle.orient_commands.proofs.fitting.fits.Goals as goal

pub returns-in-Ring : goal.returns-in-Ring
returns-in-Ring c = ring_result c.args.solid.now c.args.at.0 c.in-Ring.shell c.in-Ring.rows c.args.line.now c.in_ok-checker.checker c.ring_fits.result
    c.requires.within c.in-Ring.is (c.if-not-is_number_of.ensures.0 refl) c.in_ok-checker.ensures c.ring_fits.ensures
