use Rattle.std.proofs.lemmas.Result.{IfOk-from_err}
use Rattle.certificate_commands.proofs.Readings.{ran_out_first}
use Rattle.certificate_commands.proofs.books.judge_part_lines.Goals as goal

pub returns-clause-found : goal.returns-clause-found
returns-clause-found g c = λ f ns before h checked. c.part_outcome.ensures.found f c.args.solid.now ns before h checked
    (c.in_ok-checker.ensures {u = tt}).fed_part

pub part_outcome-requires-clause-starts : goal.part_outcome-requires-clause-starts
part_outcome-requires-clause-starts g c = (c.args.solid.now, (c.in_ok-checker.ensures {u = tt}).fed_part)

pub returns-in_err-checker-clause-found : goal.returns-in_err-checker-clause-found
returns-in_err-checker-clause-found g c = λ f ns before h checked. IfOk-from_err c.from_residual.result _ c.from_residual.ensures.0

pub returns-in_err-checker-clause-leaves : goal.returns-in_err-checker-clause-leaves
returns-in_err-checker-clause-leaves g c = IfOk-from_err c.from_residual.result _ c.from_residual.ensures.0

pub returns-in_err-checker-clause-more : goal.returns-in_err-checker-clause-more
returns-in_err-checker-clause-more g c = IfOk-from_err c.from_residual.result _ c.from_residual.ensures.0

pub returns-in_err-checker-clause-reads : goal.returns-in_err-checker-clause-reads
returns-in_err-checker-clause-reads g c = ran_out_first _ _ _ c.from_residual.result c.from_residual.ensures.1

pub returns-clause-leaves : goal.returns-clause-leaves
returns-clause-leaves g c = c.part_outcome.ensures.leaves

pub returns-clause-reads : goal.returns-clause-reads
returns-clause-reads g c = c.part_outcome.ensures.reads

pub returns-clause-more : goal.returns-clause-more
returns-clause-more g c = c.part_outcome.ensures.more
