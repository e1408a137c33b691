use Rattle.brep_walk.proofs.Few.{has_few_parts}
use Rattle.brep_walk.proofs.Found as found
use Rattle.brep_walk.proofs.law.solid_is_numbered.Goals as goal

pub returns : goal.returns
returns c f n limits all = found.solid_is_numbered f n all (has_few_parts f n limits all)
