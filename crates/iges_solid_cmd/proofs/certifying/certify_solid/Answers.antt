use Rattle.std.proofs.Common.{rules}
use Rattle.solid_data.specs.Obligations.{FirstFalse}
use Rattle.brep_walk.specs.Places.{places}
use Rattle.command_replies.proofs.Replying.{reply_owed}
use Rattle.iges_solid_cmd.specs.Due.{OfCertify}
use Rattle.iges_solid_cmd.proofs.MakerAnswers.{misplaced_owed}
use Rattle.iges_solid_cmd.proofs.certifying.certify_solid.Goals as goal

pub returns-in-Err-Fails : goal.returns-in-Err-Fails
returns-in-Err-Fails c =
    let first : FirstFalse (places c.args.file c.args.no) c.in-Err-Fails.failing = search rules in
    reply_owed (OfCertify c.args.no c.args.file) _ _ c.failed.result (misplaced_owed c.args.file c.args.no c.in-Err-Fails.failing first) c.failed.ensures

pub returns : goal.returns
returns c = c.closed_reply-reply.ensures c.args.file c.args.no c.in-Ok.ensures.holds c.in-Ok.ensures.solid
