use Rattle.open_certificate.specs.Obligations.{open_obligations}
use Rattle.open_certificate.proofs.Legality.{no_first_false, one_first_false_of}
use Rattle.open_certificate.proofs.RulesDecided.{all_or_first_false}
use Rattle.open_certificate.proofs.law.one_first_false.Goals as goal

pub returns-clause-none : goal.returns-clause-none
returns-clause-none c = λ s x. no_first_false (open_obligations s) x

pub returns-clause-one : goal.returns-clause-one
returns-clause-one c = λ s x y. one_first_false_of (open_obligations s) x y

pub returns-clause-always : goal.returns-clause-always
returns-clause-always c = all_or_first_false
