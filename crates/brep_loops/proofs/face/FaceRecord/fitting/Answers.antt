use Rattle.brep_lists.proofs.Fitting.{face_fits}
use Rattle.brep_loops.proofs.face.FaceRecord.fitting.Goals as goal

pub invariant_of-result : goal.invariant_of-result
invariant_of-result c = face_fits c.known_count.result c.args.values.now c.requires c.known_count.ensures.is c.known_count.ensures.few
