use Rattle.std.specs.Prelude.{map}
use Rattle.std.proofs.Common.{refl, arith, ap, drop, ◌+◌}
use Rattle.std.proofs.lemmas.List.{drop_all}
use Rattle.change_pieces.specs.Pieces.{face_on}
use Rattle.change_pieces.proofs.GatherSteps.{left_next, left_done, rims_split}
use Rattle.change_pieces.proofs.Steps.{no_claim}
use Rattle.change_pieces.proofs.gathering.gather_rims.Goals as goal

pub rims-init : goal.rims-init
rims-init c = λ seen g. record { done = seen; rest = refl; gathered = g }

pub returns-then-not-gather_rim : goal.returns-then-not-gather_rim
returns-then-not-gather_rim c = no_claim

pub rims-preserved : goal.rims-preserved
rims-preserved c = λ seen g.
    left_next _ _ _ _ (map (face_on c.args.flag) (drop (c.rims.i + 1) c.args.rims.now)) _ _ _ _ (rims_split c.args.flag c.args.rims.now c.rims.i _ c.item_at-rim.ensures) (c.if-not-gather_rim.ensures refl) (c.rims.invariant seen g)

pub returns : goal.returns
returns c = λ t seen g. left_done _ _ _ _ _ _ (ap (map (face_on c.args.flag)) (drop_all c.rims.i c.args.rims.now (omega arith))) (c.rims.invariant seen g)
