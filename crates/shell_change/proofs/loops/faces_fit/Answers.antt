use Rattle.std.proofs.Common.{refl, arith}
use Rattle.shell_change.specs.Fits.{FaceFits}
use Rattle.shell_change.proofs.Matching.{none_below, pair_below, lengths_differ, pair_fails, pairs_hold}
use Rattle.shell_change.proofs.loops.faces_fit.Goals as goal

pub returns-then-old-now : goal.returns-then-old-now
returns-then-old-now c = lengths_differ (FaceFits c.args.solid.now c.args.geometry.now c.args.change.now) c.args.old.now c.args.now.now c.if-old-now.true

pub faces-init : goal.faces-init
faces-init c = none_below _ c.args.now.now

pub returns-then-not-face_fits : goal.returns-then-not-face_fits
returns-then-not-face_fits c =
    pair_fails (FaceFits c.args.solid.now c.args.geometry.now c.args.change.now) c.args.old.now c.args.now.now c.faces.i _ _ c.item_at-before.ensures c.item_at-after.ensures
    c.if-not-face_fits.ensures.1

pub faces-preserved : goal.faces-preserved
faces-preserved c =
    pair_below (FaceFits c.args.solid.now c.args.geometry.now c.args.change.now) c.args.old.now c.args.now.now c.faces.i _ _ c.item_at-before.ensures c.item_at-after.ensures
    (c.if-not-face_fits.ensures.0 refl) c.faces.invariant

pub returns : goal.returns
returns c = pairs_hold (FaceFits c.args.solid.now c.args.geometry.now c.args.change.now) c.args.old.now c.args.now.now c.faces.i c.if-old-now.false (omega arith) c.faces.invariant
