use Rattle.std.proofs.Common.{length, refl}
use Rattle.std.proofs.lemmas.Result.{IfOk-weaker}
use Rattle.where_solids.proofs.ToldSolids.{lines_written}
use Rattle.where_solids.proofs.telling.put_lines.Goals as goal

pub returns : goal.returns
returns c =
    IfOk-weaker c.put_more_items.result _ _
    (λ u last. lines_written c.args.view.now.listing c.args.view.now.file.now c.args.view.now.solid.now c.args.view.now.all.now c.args.failing.now
    c.shown_members-shells.result.now c.shell_count-count.result (length c.args.failing.now) (length c.shown_members-shells.result.now)
    c.args.out.now c.put_units.new.out c.put_shells.new.out c.put_shell_lines.new.out c.put_more_items.new.out
    c.requires c.shown_members-shells.ensures c.shell_count-count.ensures.count refl refl
    c.in_ok-put_units.ensures c.in_ok-put_shells.ensures c.in_ok-put_shell_lines.ensures last)
    c.put_more_items.ensures.text
