use Rattle.std.specs.Prelude.{true}
use Rattle.std.proofs.Common.{◌≡◌, refl, arith}
use Rattle.solid_data.specs.declared.solid.LoopUse.{LoopUse}
use Rattle.shell_change.specs.Fits.{reversed_uses}
use Rattle.shell_change.proofs.Matching.{none_below, pair_below, item_differs, items_same}
use Rattle.shell_change.proofs.Reversed.{length_before}
use Rattle.shell_change.proofs.loops.is_own_reverse.Goals as goal

pub uses-init : goal.uses-init
uses-init c = none_below _ c.args.uses.now

pub returns-then-not-same_use : goal.returns-then-not-same_use
returns-then-not-same_use c =
    item_differs (reversed_uses c.args.uses.now) c.args.uses.now c.uses.i _ _ c.use_before-turned.ensures c.use_before-own.ensures c.if-not-same_use.ensures.1

pub uses-preserved : goal.uses-preserved
uses-preserved c =
    pair_below (λ (a b : LoopUse). a ≡ b) (reversed_uses c.args.uses.now) c.args.uses.now c.uses.i _ _ c.use_before-turned.ensures c.use_before-own.ensures
    (c.if-not-same_use.ensures.0 refl) c.uses.invariant

pub returns : goal.returns
returns c = items_same (reversed_uses c.args.uses.now) c.args.uses.now c.uses.i (length_before c.args.uses.now true) (omega arith) c.uses.invariant
