use Rattle.brep_lists.proofs.Fitting.{solid_fits}
use Rattle.brep_loops.proofs.solid.SolidRecord.fitting.Goals as goal

pub invariant_of-result : goal.invariant_of-result
invariant_of-result c = solid_fits c.known_count.result c.args.values.now c.requires c.known_count.ensures.is c.known_count.ensures.few
