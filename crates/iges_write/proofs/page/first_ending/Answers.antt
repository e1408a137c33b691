use Rattle.iges_write.proofs.Endings.{first_is}
use Rattle.iges_write.proofs.page.first_ending.Goals as goal

pub returns : goal.returns
returns c = first_is c.args.letter
