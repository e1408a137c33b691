use Rattle.changed_file.proofs.Stays.{others_stay}
use Rattle.changed_file.proofs.law.others_stay.Goals as goal

pub returns : goal.returns
returns c = others_stay
