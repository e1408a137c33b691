use Rattle.solid_data.proofs.ObligationsDecided.{some_verdict}
use Rattle.solid_verdict.specs.Closed.{obligations}
use Rattle.solid_verdict.proofs.Closed.{closed_is_all_hold_of_file, obligations_decided}
use Rattle.solid_verdict.proofs.Verdicts.{IsVerdict-one}
use Rattle.solid_verdict.proofs.law.one_verdict.Goals as goal

pub returns-clause-all : goal.returns-clause-all
returns-clause-all c = closed_is_all_hold_of_file

pub returns-clause-one : goal.returns-clause-one
returns-clause-one c f n a b = IsVerdict-one (obligations f n) a b

pub returns-clause-always : goal.returns-clause-always
returns-clause-always c f n = some_verdict (obligations f n) (obligations_decided f n)
