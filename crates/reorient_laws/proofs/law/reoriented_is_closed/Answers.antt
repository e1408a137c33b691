use Rattle.reorient_laws.proofs.ClosedSolid.{reoriented_paired, closed_with_flags, reoriented_closed}
use Rattle.reorient_laws.proofs.law.reoriented_is_closed.Goals as goal

pub returns-clause-paired : goal.returns-clause-paired
returns-clause-paired c = reoriented_paired

pub returns-clause-exactly : goal.returns-clause-exactly
returns-clause-exactly c = closed_with_flags

pub returns-clause-closed : goal.returns-clause-closed
returns-clause-closed c = reoriented_closed
