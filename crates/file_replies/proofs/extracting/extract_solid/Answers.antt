use Rattle.std.proofs.Common.{rules}
use Rattle.std.proofs.lemmas.Result.{IfOk-weaker}
use Rattle.solid_extract.specs.Extracted.{IsExtracted, IsRefused}
use Rattle.command_replies.proofs.Replying.{reply_owed}
use Rattle.file_replies.specs.Due.{OfExtract, not_extracted, extracted}
use Rattle.file_replies.proofs.extracting.extract_solid.Goals as goal

pub returns-in-Err-Refused : goal.returns-in-Err-Refused
returns-in-Err-Refused c =
    let fault : IsRefused c.args.file c.args.no c.in-Err-Refused.entity.0 c.in-Err-Refused.reason = search rules in
    reply_owed (OfExtract c.args.no c.args.file) _ _ c.refused.result (not_extracted c.in-Err-Refused.entity.0 c.in-Err-Refused.reason fault) c.refused.ensures

pub returns : goal.returns
returns c =
    let made : IsExtracted c.args.file c.args.no c.in-Ok.extracted = search rules in
    IfOk-weaker c.written.result _ _ (λ reply owed. extracted c.in-Ok.extracted made owed) c.written.ensures
