use Rattle.mend_commands.proofs.GeometryKept.{geometry_kept}
use Rattle.mend_commands.proofs.law.geometry_stays.Goals as goal

pub returns : goal.returns
returns c = geometry_kept
