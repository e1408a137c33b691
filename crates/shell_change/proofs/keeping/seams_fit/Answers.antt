use Rattle.std.proofs.Common.{refl, arith}
use Rattle.shell_change.specs.Seams.{SeamFits}
use Rattle.shell_change.proofs.Matching.{none_below, one_below, each_fails, each_holds}
use Rattle.shell_change.proofs.keeping.seams_fit.Goals as goal

pub seams-init : goal.seams-init
seams-init c = none_below _ c.args.seams.now

pub returns-then-not-seam_fits : goal.returns-then-not-seam_fits
returns-then-not-seam_fits c = each_fails (λ _ x. SeamFits c.args.solid.now c.args.geometry.now x) c.args.seams.now c.seams.i _ c.item_at-seam.ensures c.if-not-seam_fits.ensures.1

pub seams-preserved : goal.seams-preserved
seams-preserved c =
    one_below (λ _ x. SeamFits c.args.solid.now c.args.geometry.now x) c.args.seams.now c.seams.i _ c.item_at-seam.ensures (c.if-not-seam_fits.ensures.0 refl) c.seams.invariant

pub returns : goal.returns
returns c = each_holds (λ _ x. SeamFits c.args.solid.now c.args.geometry.now x) c.args.seams.now c.seams.i (omega arith) c.seams.invariant
