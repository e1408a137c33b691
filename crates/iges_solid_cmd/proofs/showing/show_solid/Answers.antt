use Rattle.std.proofs.Common.{rules, refl, ap, ◌∙◌}
use Rattle.solid_data.specs.Obligations.{FirstFalse}
use Rattle.brep_walk.specs.Places.{places}
use Rattle.iges_solid_cmd.specs.Texts.{show_text}
use Rattle.command_replies.proofs.Owing.{owed_so}
use Rattle.command_replies.proofs.Replying.{reply_owed}
use Rattle.iges_solid_cmd.specs.Due.{OfShow, unplaced, shown}
use Rattle.iges_solid_cmd.proofs.showing.show_solid.Goals as goal

pub returns-in-Err-Fails : goal.returns-in-Err-Fails
returns-in-Err-Fails c =
    let first : FirstFalse (places c.args.file.now c.args.no) c.in-Err-Fails.failing = search rules in
    reply_owed (OfShow c.args.no c.args.file.now) _ _ c.failed.result (unplaced c.in-Err-Fails.failing first) c.failed.ensures

pub returns : goal.returns
returns c = owed_so (OfShow c.args.no c.args.file.now) _ _ _ _ (shown c.in-Ok.ensures.holds) refl
    (c.in_ok-shell_list.ensures ∙ ap show_text c.in-Ok.ensures.solid)
