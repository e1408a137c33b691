use Rattle.std.proofs.Common.{arith}
use Rattle.std.proofs.lemmas.Result.{err_from_is_err_and}
use Rattle.cert_lines.specs.Line.{cut_lines}
use Rattle.orient_commands.proofs.LineSteps.{misspelt_text, unfit_text, past_end}
use Rattle.orient_commands.proofs.lines.end_text.Goals as goal

pub returns-in_err-_behind-clause-fault : goal.returns-in_err-_behind-clause-fault
returns-in_err-_behind-clause-fault c =
    let p = err_from_is_err_and c.from_residual.result c.from_residual.ensures.1 in
    rw (p.1, p.2) (misspelt_text c.args.solid.now c.args.number c.args.text.now c.in-Some.line.now (cut_lines c.in-Some._rest.now) c.in_err-_behind.field-0.0
    c.in-Some.ensures.0 c.in_err-_behind.ensures.fault)

pub returns-clause-fault : goal.returns-clause-fault
returns-clause-fault c =
    unfit_text c.args.solid.now c.args.number c.args.text.now c.in-Some.line.now (cut_lines c.in-Some._rest.now) c.in_ok-_behind._behind c.in-Some.ensures.0
    c.in_ok-_behind.ensures.found
    (λ fit. past_end c.args.solid.now c.args.number c.in_ok-_behind._behind (omega (arith, c.requires)) fit)
