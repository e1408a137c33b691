use Rattle.std.proofs.lemmas.Result.{err_from_is_err_and}
use Rattle.cert_lines.specs.Line.{cut_lines}
use Rattle.orient_commands.proofs.LineSteps.{misspelt_text, unfit_text, at_end, false_never}
use Rattle.orient_commands.proofs.lines.behind_end.Goals as goal

pub returns-in_err-read-clause-fault : goal.returns-in_err-read-clause-fault
returns-in_err-read-clause-fault c =
    let p = err_from_is_err_and c.from_residual.result c.from_residual.ensures.1 in
    rw (p.1, p.2) (misspelt_text c.args.solid.now c.args.number c.args.text.now c.in-Some.line.now (cut_lines c.in-Some.rest.now) c.in_err-read.field-0.0
    c.in-Some.ensures.0 c.in_err-read.ensures.fault)

pub returns-then-not-is_end-clause-fault : goal.returns-then-not-is_end-clause-fault
returns-then-not-is_end-clause-fault c =
    unfit_text c.args.solid.now c.args.number c.args.text.now c.in-Some.line.now (cut_lines c.in-Some.rest.now) c.in_ok-read.read c.in-Some.ensures.0
    c.in_ok-read.ensures.found
    (λ fit. false_never (c.if-not-is_end.ensures.1 (at_end c.args.solid.now c.args.number c.in_ok-read.read c.requires fit)))
