use Rattle.cert_lines.specs.Line.{cut_lines}
use Rattle.certificate_commands.proofs.VerifyAnswers.{upgrade_fails}
use Rattle.certificate_commands.proofs.upgrading.upgrade_alone.Goals as goal

pub returns-in-Err : goal.returns-in-Err
returns-in-Err c =
    let tells = rw c.in-Err.is at (c.in_ok-solid.ensures {u = tt}) in
    upgrade_fails c.args.file c.args.certificate.now c.args.version c.args.no.0 (cut_lines c.args.rest.now) c.requires.few c.requires.opens c.requires.one
    c.in-Err.reply tells

pub returns : goal.returns
returns c = c.judged_reply-reply.ensures c.args.file c.args.no.0 c.requires.opens (rw c.in-Ok.is at (c.in_ok-solid.ensures {u = tt}))
