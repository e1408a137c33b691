use Rattle.std.proofs.Common.{refl, sym, Ok, []}
use Rattle.cert_state.specs.Progress.{FitsLine}
use Rattle.topo_certificate.proofs.FedLines.{line_answer, refused}
use Rattle.topo_certificate.proofs.checker.Checker.line.Goals as goal

pub returns-in-Ok-clause-line : goal.returns-in-Ok-clause-line
returns-in-Ok-clause-line c =
    let judged = c.in-Ok.ensures {u = tt} in
    rw (sym c.self.view_is)
    (λ v s first read stands. line_answer v s FitsLine first _ _ read c.args.line.now (Ok c.in-Ok.field-0) stands judged.same refl c.in_default.is
    judged.line)

pub returns-in-Err-clause-line : goal.returns-in-Err-clause-line
returns-in-Err-clause-line c =
    let judged = c.in-Err.ensures {u = tt} in
    rw (c.fail.ensures.fault, sym c.self.view_is)
    (λ v s first read stands. (
      refused v s FitsLine first _ c.line.new.self read [] c.args.line.now c.in-Err.bad stands (λ number lines at. (judged.line number lines at).0),
      c.fail.ensures.failed,
    ))
