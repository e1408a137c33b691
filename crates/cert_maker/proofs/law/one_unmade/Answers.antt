use Rattle.cert_maker.proofs.Unmade as solids
use Rattle.cert_maker.proofs.law.one_unmade.Goals as goal

pub returns-clause-one : goal.returns-clause-one
returns-clause-one c = solids.one_unmade

pub returns-clause-none : goal.returns-clause-none
returns-clause-none c = solids.none_unmade

pub returns-clause-always : goal.returns-clause-always
returns-clause-always c = solids.made_or_unmade
