use Rattle.std.proofs.Common.{refl}
use Rattle.solid_hints.specs.ShellHints.{faces_named, remedy_at}
use Rattle.solid_hints.proofs.ToldHints.{items_all, items_more, numbered_all, numbered_more}
use Rattle.solid_hints.proofs.remedies.put_each.Goals as goal

pub remedies-preserved : goal.remedies-preserved
remedies-preserved c =
    let view = c.args.view.now in
    record {
      text = numbered_more (remedy_at view.listing view.file.now view.solid.now) c.args.remedies.now c.remedies.i c.item_at-remedy.result.now c.remedies.out
          c.put_numbered.new.out _ c.item_at-remedy.ensures c.remedies.invariant.text (c.in_ok-put_numbered.ensures.text c.remedies.i refl);
      named = items_more (faces_named view.listing view.solid.now) c.args.remedies.now c.remedies.i c.item_at-remedy.result.now c.remedies.named
          c.put_numbered.new.named _ c.item_at-remedy.ensures c.remedies.invariant.named c.in_ok-put_numbered.ensures.named;
    }

pub returns-clause-text : goal.returns-clause-text
returns-clause-text c =
    let view = c.args.view.now in
    numbered_all (remedy_at view.listing view.file.now view.solid.now) c.args.remedies.now c.remedies.i c.remedies.out _ c.remedies-test.false
    c.remedies.invariant.text

pub returns-clause-named : goal.returns-clause-named
returns-clause-named c =
    let view = c.args.view.now in
    items_all (faces_named view.listing view.solid.now) c.args.remedies.now c.remedies.i c.remedies.named _ c.remedies-test.false c.remedies.invariant.named
