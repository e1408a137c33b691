use Rattle.where_places.proofs.OnePlacedFile.{one_placed}
use Rattle.where_places.proofs.law.one_placed_file.Goals as goal

pub returns : goal.returns
returns c = one_placed
