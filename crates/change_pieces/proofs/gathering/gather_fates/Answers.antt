use Rattle.std.proofs.Common.{refl, arith, ap, drop, ◌+◌}
use Rattle.std.proofs.lemmas.List.{drop_all}
use Rattle.change_pieces.specs.Pieces.{kept_faces}
use Rattle.change_pieces.proofs.GatherSteps.{left_next, left_done, fates_split}
use Rattle.change_pieces.proofs.Steps.{no_claim}
use Rattle.change_pieces.proofs.gathering.gather_fates.Goals as goal

pub fates-init : goal.fates-init
fates-init c = λ seen g. record { done = seen; rest = refl; gathered = g }

pub returns-then-not-gather_fate : goal.returns-then-not-gather_fate
returns-then-not-gather_fate c = no_claim

pub fates-preserved : goal.fates-preserved
fates-preserved c = λ seen g.
    left_next _ _ _ _ (kept_faces (drop (c.fates.i + 1) c.args.fates.now)) _ _ _ _ (fates_split c.args.fates.now c.fates.i _ c.item_at-fate.ensures) (c.if-not-gather_fate.ensures refl) (c.fates.invariant seen g)

pub returns : goal.returns
returns c = λ t seen g. left_done _ _ _ _ _ _ (ap kept_faces (drop_all c.fates.i c.args.fates.now (omega arith))) (c.fates.invariant seen g)
