use Rattle.brep_lists.proofs.Fitting.{shell_fits}
use Rattle.brep_loops.proofs.shell.ShellRecord.fitting.Goals as goal

pub invariant_of-result : goal.invariant_of-result
invariant_of-result c = shell_fits c.known_count.result c.args.values.now c.requires c.known_count.ensures.is c.known_count.ensures.few
