use Rattle.extraction_laws.proofs.RenamedPlaces.{renamed_alike, renamed_verdict, renamed_tells_place}
use Rattle.extraction_laws.proofs.law.relabelled_solids_fail_alike.Goals as goal

pub returns-clause-items : goal.returns-clause-items
returns-clause-items c = renamed_alike

pub returns-clause-verdict : goal.returns-clause-verdict
returns-clause-verdict c = renamed_verdict

pub returns-clause-place : goal.returns-clause-place
returns-clause-place c = renamed_tells_place
