use Rattle.repair_commands.proofs.OneAnswer.{in_layout_told}
use Rattle.repair_commands.proofs.law.in_layout_is_told.Goals as goal

pub returns : goal.returns
returns c = in_layout_told
