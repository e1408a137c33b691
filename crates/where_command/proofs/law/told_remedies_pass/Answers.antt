use Rattle.where_command.proofs.Laws.{remedies_pass}
use Rattle.where_command.proofs.law.told_remedies_pass.Goals as goal

pub returns : goal.returns
returns c = remedies_pass
