use Rattle.std.proofs.Common.{refl, arith}
use Rattle.shell_change.specs.Fits.{LoopFits}
use Rattle.shell_change.proofs.Matching.{none_below, pair_below, lengths_differ, pair_fails, pairs_hold}
use Rattle.shell_change.proofs.loops.loops_fit.Goals as goal

pub returns-then-old-now : goal.returns-then-old-now
returns-then-old-now c = lengths_differ (LoopFits c.args.solid.now c.args.geometry.now c.args.change.now) c.args.old.now c.args.now.now c.if-old-now.true

pub loops-init : goal.loops-init
loops-init c = none_below _ c.args.now.now

pub returns-then-not-loop_fits : goal.returns-then-not-loop_fits
returns-then-not-loop_fits c =
    pair_fails (LoopFits c.args.solid.now c.args.geometry.now c.args.change.now) c.args.old.now c.args.now.now c.loops.i _ _ c.item_at-before.ensures c.item_at-after.ensures
    c.if-not-loop_fits.ensures.1

pub loops-preserved : goal.loops-preserved
loops-preserved c =
    pair_below (LoopFits c.args.solid.now c.args.geometry.now c.args.change.now) c.args.old.now c.args.now.now c.loops.i _ _ c.item_at-before.ensures c.item_at-after.ensures
    (c.if-not-loop_fits.ensures.0 refl) c.loops.invariant

pub returns : goal.returns
returns c = pairs_hold (LoopFits c.args.solid.now c.args.geometry.now c.args.change.now) c.args.old.now c.args.now.now c.loops.i c.if-old-now.false (omega arith) c.loops.invariant
