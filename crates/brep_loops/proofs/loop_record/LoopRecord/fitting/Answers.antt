use Rattle.brep_lists.proofs.Fitting.{loop_fits}
use Rattle.brep_loops.proofs.loop_record.LoopRecord.fitting.Goals as goal

pub invariant_of-result : goal.invariant_of-result
invariant_of-result c = loop_fits c.known_count.result c.args.values.now c.requires c.known_count.ensures.is
