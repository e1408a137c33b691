use Rattle.std.proofs.Common.{rules}
use Rattle.std.proofs.lemmas.Result.{IfOk-weaker}
use Rattle.solid_data.specs.Obligations.{FirstFalse}
use Rattle.shell_rules.specs.ShellObligations.{solid_obligations}
use Rattle.iges_solid_cmd.proofs.SampleFacts.{no_rule_fails, made_text}
use Rattle.iges_solid_cmd.proofs.sampling.certificate_text.Goals as goal

pub unreachable-requires : goal.unreachable-requires
unreachable-requires c =
    let first : FirstFalse (solid_obligations c.args.solid.now) c.in-Err-Fails.field-0-0 = search rules in
    no_rule_fails c.args.n c.requires.size c.args.solid.now c.in-Err-Fails.field-0-0 c.requires.sample first

pub returns-in-Ok : goal.returns-in-Ok
returns-in-Ok c =
    IfOk-weaker c.write_certificate.result _ _
    (λ text is. made_text c.args.n c.requires.size c.args.solid.now text _ c.requires.sample is c.in-Ok.ensures.text) c.write_certificate.ensures.text
