use Rattle.std.proofs.Common.{arith, refl, ap, ◌+◌, length}
use Rattle.std.proofs.lemmas.Result.{err_from_is_err_and}
use Rattle.cert_state.specs.Progress.{progress_from_latest}
use Rattle.topo_certificate.specs.Matching.{CheckerState}
use Rattle.topo_certificate.proofs.Checking.{bad_in_part}
use Rattle.topo_certificate.proofs.line_checker.LineChecker.line_of_part.Goals as goal

pub returns-in-Some-next_part-clause-line : goal.returns-in-Some-next_part-clause-line
returns-in-Some-next_part-clause-line c = λ first lines at.
    let e = c.in-Some-next_part.ensures first lines at in
    (e.0, e.1, omega (arith, at.number, ap (λ (k : CheckerState). k.number) c.self.view_is), refl)

pub returns-in_err-line-clause-line : goal.returns-in_err-line-clause-line
returns-in_err-line-clause-line c =
    let p = err_from_is_err_and c.from_residual.result c.from_residual.ensures.1 in
    rw (p.1, p.2) (λ first lines at.
    let b = c.in_err-line.ensures.line first lines at in (
      bad_in_part c.args.self.now.solid (progress_from_latest c.args.self.now.version c.args.self.now.solid lines) (first + length lines) c.args.line.now
          c.in_err-line.field-0.0 (c.in_default-next_part.ensures first lines at) b.0,
      b.1,
    ))

pub returns-clause-line : goal.returns-clause-line
returns-clause-line c = c.in_ok-line.ensures.line
