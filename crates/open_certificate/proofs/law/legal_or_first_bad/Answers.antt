use Rattle.open_certificate.proofs.Legality.{legal_has_no_bad, one_first_bad}
use Rattle.open_certificate.proofs.LinesDecided as decided
use Rattle.open_certificate.proofs.law.legal_or_first_bad.Goals as goal

pub returns-clause-none : goal.returns-clause-none
returns-clause-none c = legal_has_no_bad

pub returns-clause-one : goal.returns-clause-one
returns-clause-one c = one_first_bad

pub returns-clause-always : goal.returns-clause-always
returns-clause-always c = decided.legal_or_first_bad
