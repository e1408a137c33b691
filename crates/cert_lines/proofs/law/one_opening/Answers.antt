use Rattle.cert_lines.proofs.Openings.{one_opening, opens_or_bad, one_bad_opening}
use Rattle.cert_lines.proofs.Decided.{openings_are_decided}
use Rattle.cert_lines.proofs.law.one_opening.Goals as goal

pub returns-clause-opens : goal.returns-clause-opens
returns-clause-opens c = one_opening

pub returns-clause-none : goal.returns-clause-none
returns-clause-none c = opens_or_bad

pub returns-clause-one : goal.returns-clause-one
returns-clause-one c = one_bad_opening

pub returns-clause-always : goal.returns-clause-always
returns-clause-always c = openings_are_decided
