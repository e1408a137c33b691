use Rattle.orient_commands.proofs.Turning.{fitting_close}
use Rattle.orient_commands.proofs.law.fitting_flags_close.Goals as goal

pub returns : goal.returns
returns c = fitting_close
