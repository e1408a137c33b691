use Rattle.brep_walk.proofs.ShellSolids.{shell_is_numbered}
use Rattle.brep_walk.proofs.law.shell_solid_is_numbered.Goals as goal

pub returns : goal.returns
returns c f n limits all = shell_is_numbered f n limits all
