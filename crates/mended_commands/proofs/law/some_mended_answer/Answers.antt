use Rattle.mended_commands.proofs.SomeTold.{some_mended}
use Rattle.mended_commands.proofs.law.some_mended_answer.Goals as goal

pub returns : goal.returns
returns c = some_mended
