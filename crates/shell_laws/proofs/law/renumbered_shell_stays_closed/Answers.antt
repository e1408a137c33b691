use Rattle.shell_laws.proofs.RenumberedShell.{renumbered_shell}
use Rattle.shell_laws.proofs.law.renumbered_shell_stays_closed.Goals as goal

pub returns : goal.returns
returns c = renumbered_shell
