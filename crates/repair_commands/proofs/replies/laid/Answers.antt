use Rattle.std.proofs.Common.{rules, ◌≡◌, ◌<◌, Ok, Err, length, ap, arith}
use Rattle.iges_base.specs.declared.TheConstants.{FILE_LIMIT}
use Rattle.line_layout.specs.Relaid.{relaid}
use Rattle.command_replies.proofs.Owing.{owed_so}
use Rattle.repair_commands.specs.Due.{OfNoLayout, bad_layout, text_too_large}
use Rattle.repair_commands.proofs.replies.laid.Goals as goal

pub returns-then-as_slice-gt-FILE_LIMIT : goal.returns-then-as_slice-gt-FILE_LIMIT
returns-then-as_slice-gt-FILE_LIMIT c =
    let made : relaid c.args.bytes.now ≡ Ok c.in-Ok.text = search rules in
    let long : FILE_LIMIT < length c.in-Ok.text = omega (arith, c.if-as_slice-gt-FILE_LIMIT.true, ap length c.as_slice.ensures) in
    owed_so (OfNoLayout c.args.bytes.now) _ _ _ _ (text_too_large c.requires c.in-Ok.text made long) c.too_large.ensures.0 c.too_large.ensures.1

pub returns-in_ok-bad_layout-in-Err-Bad : goal.returns-in_ok-bad_layout-in-Err-Bad
returns-in_ok-bad_layout-in-Err-Bad c =
    let made : relaid c.args.bytes.now ≡ Err c.in-Err-Bad.fault = search rules in
    let reply = c.in_ok-bad_layout-in-Err-Bad.ensures in
    owed_so (OfNoLayout c.args.bytes.now) _ _ _ _ (bad_layout c.requires c.in-Err-Bad.fault made) reply.0 reply.1
