use Rattle.record_paths.specs.Paths.{sited}
use Rattle.record_paths.proofs.Bearing.{path_one}
use Rattle.record_paths.proofs.law.one_path.Goals as goal

pub returns : goal.returns
returns c f n x p q = path_one x (sited f n) p q
