use Rattle.std.proofs.Common.{refl, arith}
use Rattle.change_names.specs.Names.{UseIsOwn}
use Rattle.shell_change.proofs.Matching.{none_below, one_below, each_fails, each_holds}
use Rattle.change_names.proofs.names.uses_are_own.Goals as goal

pub uses-init : goal.uses-init
uses-init c = none_below _ c.args.uses.now

pub returns-then-not-use_is_own : goal.returns-then-not-use_is_own
returns-then-not-use_is_own c = each_fails (λ _ u. UseIsOwn c.args.rows.now u) c.args.uses.now c.uses.i _ c.item_at-item.ensures c.if-not-use_is_own.ensures.1

pub uses-preserved : goal.uses-preserved
uses-preserved c =
    one_below (λ _ u. UseIsOwn c.args.rows.now u) c.args.uses.now c.uses.i _ c.item_at-item.ensures (c.if-not-use_is_own.ensures.0 refl) c.uses.invariant

pub returns : goal.returns
returns c = each_holds (λ _ u. UseIsOwn c.args.rows.now u) c.args.uses.now c.uses.i (omega arith) c.uses.invariant
