use Rattle.where_command.proofs.Laws.{closed_is_told}
use Rattle.where_command.proofs.law.closed_is_told.Goals as goal

pub returns : goal.returns
returns c = closed_is_told
