use Rattle.cert_accept.proofs.BookReading.{one_refusal, none_bad, accepted_or_bad, one_reading}
use Rattle.cert_accept.proofs.law.one_book.Goals as goal

pub returns-clause-one : goal.returns-clause-one
returns-clause-one c = one_refusal

pub returns-clause-none : goal.returns-clause-none
returns-clause-none c = none_bad

pub returns-clause-always : goal.returns-clause-always
returns-clause-always c = accepted_or_bad

pub returns-clause-reading : goal.returns-clause-reading
returns-clause-reading c = one_reading
