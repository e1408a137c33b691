use Rattle.record_paths.proofs.Same.{same_sited}
use Rattle.record_paths.proofs.law.paths_are_of_places.Goals as goal

pub returns : goal.returns
returns c = same_sited
