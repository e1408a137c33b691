use Rattle.topo_certificate.proofs.LegalLemmas.{legal_has_no_bad_lem, one_first_bad}
use Rattle.topo_certificate.proofs.Decided as decided
use Rattle.topo_certificate.proofs.law.legal_or_first_bad.Goals as goal

pub returns-clause-none : goal.returns-clause-none
returns-clause-none c = legal_has_no_bad_lem

pub returns-clause-one : goal.returns-clause-one
returns-clause-one c = one_first_bad

pub returns-clause-always : goal.returns-clause-always
returns-clause-always c = decided.legal_or_first_bad
