use Rattle.repair_commands.proofs.NeverDone.{unoriented_no}
use Rattle.repair_commands.proofs.law.unoriented_is_no.Goals as goal

pub returns : goal.returns
returns c = unoriented_no
