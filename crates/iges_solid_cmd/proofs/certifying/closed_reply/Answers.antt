use Rattle.std.proofs.Common.{rules, sym, subst}
use Rattle.solid_data.specs.Obligations.{FirstFalse}
use Rattle.shell_rules.specs.ShellObligations.{solid_obligations}
use Rattle.cert_maker.specs.Certified.{IsCertificateText}
use Rattle.command_replies.proofs.Replying.{reply_owed}
use Rattle.iges_solid_cmd.specs.Due.{OfCertify}
use Rattle.iges_solid_cmd.proofs.MakerAnswers.{certified_owed, unclosed_owed}
use Rattle.iges_solid_cmd.proofs.certifying.closed_reply.Goals as goal

pub returns-in-Err-Fails : goal.returns-in-Err-Fails
returns-in-Err-Fails c = λ f n holds is.
    let first : FirstFalse (solid_obligations c.args.solid.now) c.in-Err-Fails.failing = search rules in
    reply_owed (OfCertify n f) _ _ c.failed.result (unclosed_owed f n c.in-Err-Fails.failing c.args.solid.now holds is first) c.failed.ensures

pub returns : goal.returns
returns c = λ f n holds is.
    let made = subst (IsCertificateText f n) (sym c.in_ok-write_certificate.ensures.text) (c.in-Ok.ensures.text f n is) in
    certified_owed f n _ c.args.solid.now holds is c.in-Ok.ensures.holds made
