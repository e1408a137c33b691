use Rattle.std.proofs.Common.{◌≡◌}
use Rattle.solid_data.specs.Obligations.{IsVerdict}
use Rattle.solid_data.specs.declared.verdict.Verdict.{Verdict}
use Rattle.solid_data.specs.declared.verdict.Verdict.TheVariants.{Fails}
use Rattle.shell_rules.specs.ShellObligations.{solid_obligations}
use Rattle.edge_uses.proofs.Steps.{ok_weaker}
use Rattle.solid_verdict.specs.Closed.{IsVerdictOn}
use Rattle.solid_verdict.proofs.Verdicts.{place_fails, on_file, one_on_file}
use Rattle.cert_maker.proofs.deciding.verdict.Goals as goal

pub returns-in-Ok-clause-verdict : goal.returns-in-Ok-clause-verdict
returns-in-Ok-clause-verdict c =
    ok_weaker c.shells_verdict.result (IsVerdict (solid_obligations c.in-Ok.solid)) (IsVerdictOn c.args.file.now c.args.no.0)
    (λ v. on_file c.args.file.now c.args.no.0 c.in-Ok.solid v c.in-Ok.ensures.solid c.in-Ok.ensures.holds) c.shells_verdict.ensures

pub returns-in-Ok-clause-only : goal.returns-in-Ok-clause-only
returns-in-Ok-clause-only c v on =
    ok_weaker c.shells_verdict.result (IsVerdict (solid_obligations c.in-Ok.solid)) (λ (w : Verdict). w ≡ v)
    (λ w is. one_on_file c.args.file.now c.args.no.0 w v (on_file c.args.file.now c.args.no.0 c.in-Ok.solid w c.in-Ok.ensures.solid c.in-Ok.ensures.holds is)
    on) c.shells_verdict.ensures

pub returns-in-Err-Fails-clause-verdict : goal.returns-in-Err-Fails-clause-verdict
returns-in-Err-Fails-clause-verdict c =
    let only = rw c.in-Err-Fails.field-0-is at c.in-Err-Fails.ensures.fault in
    rw c.in-Err-Fails.field-0-is (place_fails c.args.file.now c.args.no.0 c.in-Err-Fails.failing only)

pub returns-in-Err-Fails-clause-only : goal.returns-in-Err-Fails-clause-only
returns-in-Err-Fails-clause-only c v on =
    let only = rw c.in-Err-Fails.field-0-is at c.in-Err-Fails.ensures.fault in
    rw c.in-Err-Fails.field-0-is
    (one_on_file c.args.file.now c.args.no.0 (Fails c.in-Err-Fails.failing) v (place_fails c.args.file.now c.args.no.0 c.in-Err-Fails.failing only) on)
