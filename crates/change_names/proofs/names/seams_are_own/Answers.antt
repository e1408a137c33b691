use Rattle.std.proofs.Common.{refl, arith}
use Rattle.change_names.specs.Names.{SeamIsOwn}
use Rattle.shell_change.proofs.Matching.{none_below, one_below, each_fails, each_holds}
use Rattle.change_names.proofs.names.seams_are_own.Goals as goal

pub seams-init : goal.seams-init
seams-init c = none_below _ c.args.seams.now

pub returns-then-not-seam_is_own : goal.returns-then-not-seam_is_own
returns-then-not-seam_is_own c = each_fails (λ _ x. SeamIsOwn c.args.rows.now x) c.args.seams.now c.seams.i _ c.item_at-item.ensures c.if-not-seam_is_own.ensures.1

pub seams-preserved : goal.seams-preserved
seams-preserved c =
    one_below (λ _ x. SeamIsOwn c.args.rows.now x) c.args.seams.now c.seams.i _ c.item_at-item.ensures (c.if-not-seam_is_own.ensures.0 refl) c.seams.invariant

pub returns : goal.returns
returns c = each_holds (λ _ x. SeamIsOwn c.args.rows.now x) c.args.seams.now c.seams.i (omega arith) c.seams.invariant
