use Rattle.std.proofs.Common.{rules}
use Rattle.std.proofs.lemmas.Result.{IfOk-weaker}
use Rattle.solid_extract.specs.Extracted.{IsRefused}
use Rattle.list_compact.specs.Compacted.{IsCompacted, IsMisplaced}
use Rattle.command_replies.proofs.Replying.{reply_owed}
use Rattle.iges_solid_cmd.specs.Due.{OfCompact, not_compacted, misplaced, compacted}
use Rattle.iges_solid_cmd.proofs.compacting.compact_solid.Goals as goal

pub returns-in-Err-Refused : goal.returns-in-Err-Refused
returns-in-Err-Refused c =
    let fault : IsRefused c.args.file c.args.no c.in-Err-Refused.entity.0 c.in-Err-Refused.reason = search rules in
    reply_owed (OfCompact c.args.no c.args.file) _ _ c.refused.result (not_compacted c.in-Err-Refused.entity.0 c.in-Err-Refused.reason fault) c.refused.ensures

pub returns-in-Err-Fails : goal.returns-in-Err-Fails
returns-in-Err-Fails c =
    let fault : IsMisplaced c.args.file c.args.no c.in-Err-Fails.failing = search rules in
    reply_owed (OfCompact c.args.no c.args.file) _ _ c.failed.result (misplaced c.in-Err-Fails.failing fault) c.failed.ensures

pub returns : goal.returns
returns c =
    let made : IsCompacted c.args.file c.args.no c.in-Ok.compacted = search rules in
    IfOk-weaker c.written.result _ _ (λ reply owed. compacted c.in-Ok.compacted made owed) c.written.ensures
