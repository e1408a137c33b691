use Rattle.std.specs.Prelude.{◌<◌}
use Rattle.std.proofs.Common.{refl, arith}
use Rattle.shell_change.specs.declared.change.Rim.{Rim}
use Rattle.shell_change.proofs.Matching.{none_below, one_below, each_holds}
use Rattle.change_pieces.proofs.Steps.{no_claim}
use Rattle.change_pieces.proofs.gathering.rims_within.Goals as goal

pub rims-init : goal.rims-init
rims-init c = none_below _ c.args.rims.now

pub returns-then-not-is_within : goal.returns-then-not-is_within
returns-then-not-is_within c = no_claim

pub rims-preserved : goal.rims-preserved
rims-preserved c =
    one_below (λ _ (rim : Rim). rim.piece < c.args.count) c.args.rims.now c.rims.i _ c.item_at-rim.ensures (c.if-not-is_within.ensures refl) c.rims.invariant

pub returns : goal.returns
returns c = λ t. (each_holds (λ _ (rim : Rim). rim.piece < c.args.count) c.args.rims.now c.rims.i (omega arith) c.rims.invariant).0 refl
