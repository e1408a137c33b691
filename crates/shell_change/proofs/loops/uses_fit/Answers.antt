use Rattle.std.proofs.Common.{refl, sym, ◌∙◌, arith}
use Rattle.shell_change.specs.UseFits.{UseFits}
use Rattle.shell_change.specs.Fits.{uses_before}
use Rattle.shell_change.proofs.Matching.{none_below, pair_below, lengths_differ, pair_fails, pairs_hold}
use Rattle.shell_change.proofs.Reversed.{length_before}
use Rattle.shell_change.proofs.loops.uses_fit.Goals as goal

pub returns-then-old-now : goal.returns-then-old-now
returns-then-old-now c = lengths_differ (UseFits c.args.solid.now c.args.geometry.now c.args.change.now) (uses_before c.args.old.now c.args.reversed) c.args.now.now (λ e. c.if-old-now.true (sym (length_before c.args.old.now c.args.reversed) ∙ e))

pub uses-init : goal.uses-init
uses-init c = none_below _ c.args.now.now

pub returns-then-not-use_fits : goal.returns-then-not-use_fits
returns-then-not-use_fits c =
    pair_fails (UseFits c.args.solid.now c.args.geometry.now c.args.change.now) (uses_before c.args.old.now c.args.reversed) c.args.now.now c.uses.i _ _ c.use_before-before.ensures c.item_at-after.ensures
    c.if-not-use_fits.ensures.1

pub uses-preserved : goal.uses-preserved
uses-preserved c =
    pair_below (UseFits c.args.solid.now c.args.geometry.now c.args.change.now) (uses_before c.args.old.now c.args.reversed) c.args.now.now c.uses.i _ _ c.use_before-before.ensures c.item_at-after.ensures
    (c.if-not-use_fits.ensures.0 refl) c.uses.invariant

pub returns : goal.returns
returns c = pairs_hold (UseFits c.args.solid.now c.args.geometry.now c.args.change.now) (uses_before c.args.old.now c.args.reversed) c.args.now.now c.uses.i (length_before c.args.old.now c.args.reversed ∙ c.if-old-now.false) (omega arith) c.uses.invariant
