use Rattle.brep_lists.proofs.OnlyRead.{only_read}
use Rattle.brep_lists.proofs.law.items_are_one.Goals as goal

pub returns : goal.returns
returns c = only_read
