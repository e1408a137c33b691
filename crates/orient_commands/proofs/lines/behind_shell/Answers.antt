use Rattle.std.proofs.Common.{◌+◌}
use Rattle.std.proofs.lemmas.Result.{err_from_is_err_and}
use Rattle.cert_lines.specs.Line.{cut_lines}
use Rattle.orient_commands.proofs.LineSteps.{misspelt_text, unfit_text, not_both}
use Rattle.orient_commands.proofs.lines.behind_shell.Goals as goal

pub returns-in_err-read-clause-fault : goal.returns-in_err-read-clause-fault
returns-in_err-read-clause-fault c =
    let p = err_from_is_err_and c.from_residual.result c.from_residual.ensures.1 in
    rw (p.1, p.2) (misspelt_text c.args.solid.now (c.args.at.0 + 2) c.args.text.now c.in-Some.line.now (cut_lines c.in-Some.rest.now) c.in_err-read.field-0.0
    c.in-Some.ensures.0 (rw c.from-number.ensures at c.in_err-read.ensures.fault))

pub returns-then-not-branch-clause-fault : goal.returns-then-not-branch-clause-fault
returns-then-not-branch-clause-fault c =
    rw c.from-number.ensures
    (unfit_text c.args.solid.now (c.args.at.0 + 2) c.args.text.now c.in-Some.line.now (cut_lines c.in-Some.rest.now) c.in_ok-read.read c.in-Some.ensures.0
    c.in_ok-read.ensures.found
    (λ fit. not_both c.in_ok-fits.field-0 c.if-not-branch.true (c.in_ok-fits.ensures.1 fit)))
