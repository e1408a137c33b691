use Rattle.flag_choice.proofs.OtherFlags.{suited_sewn}
use Rattle.flag_choice.proofs.law.suited_is_sewn.Goals as goal

pub returns : goal.returns
returns c = suited_sewn
