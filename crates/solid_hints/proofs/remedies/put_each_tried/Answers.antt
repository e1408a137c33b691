use Rattle.std.proofs.Common.{get_or, refl}
use Rattle.solid_hints.proofs.ToldHints.{told_all, told_more}
use Rattle.solid_hints.proofs.remedies.put_each_tried.Goals as goal

pub shells-preserved : goal.shells-preserved
shells-preserved c =
    let on = c.args.view.now.on.now in
    let next = c.in_ok-put_tried.ensures in
    told_more on.listing on.file.now on.solid.now c.args.shells.now c.shells.i (get_or c.args.shells.now c.shells.i 0) next.0 c.args.out.now c.shells.out
    c.put_tried.new.out c.args.named.now c.shells.named c.put_tried.new.named c.shells-test.true refl c.shells.invariant next.1 next.2 next.3

pub returns : goal.returns
returns c =
    let on = c.args.view.now.on.now in
    told_all on.listing on.file.now on.solid.now c.args.shells.now c.shells.i c.args.out.now c.shells.out c.args.named.now c.shells.named c.shells-test.false
    c.shells.invariant
