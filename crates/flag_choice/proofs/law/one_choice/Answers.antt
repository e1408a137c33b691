use Rattle.flag_choice.proofs.Two.{one_flags}
use Rattle.flag_choice.proofs.law.one_choice.Goals as goal

pub returns : goal.returns
returns c = one_flags
