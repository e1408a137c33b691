use Rattle.std.proofs.Common.{rules}
use Rattle.std.proofs.lemmas.Result.{IfOk-weaker}
use Rattle.solid_extract.specs.Extracted.{IsRefused}
use Rattle.solid_reorient.specs.Reoriented.{IsReoriented}
use Rattle.command_replies.proofs.Replying.{reply_owed}
use Rattle.repair_commands.specs.SolidDue.{OfReorient, not_reoriented, reoriented}
use Rattle.repair_commands.proofs.reorienting.with_flags.Goals as goal

pub returns-in-Err-Refused : goal.returns-in-Err-Refused
returns-in-Err-Refused c =
    let fault : IsRefused c.args.file c.args.no c.in-Err-Refused.entity.0 c.in-Err-Refused.reason = search rules in
    reply_owed (OfReorient c.args.no c.args.file) _ _ c.refused.result
    (not_reoriented c.args.flags.now c.requires c.in-Err-Refused.entity.0 c.in-Err-Refused.reason fault) c.refused.ensures

pub returns : goal.returns
returns c =
    let made : IsReoriented c.args.file c.args.no c.in-Ok.reoriented = search rules in
    IfOk-weaker c.written.result _ _ (λ reply owed. reoriented c.in-Ok.reoriented made owed) c.written.ensures
