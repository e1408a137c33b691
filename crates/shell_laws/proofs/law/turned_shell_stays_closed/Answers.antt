use Rattle.shell_laws.proofs.TurnedShell.{turned_shell}
use Rattle.shell_laws.proofs.law.turned_shell_stays_closed.Goals as goal

pub returns : goal.returns
returns c = turned_shell
