use Rattle.layout_laws.proofs.Reading.{same_again}
use Rattle.layout_laws.proofs.law.made_file_stays.Goals as goal

pub returns : goal.returns
returns c = same_again
