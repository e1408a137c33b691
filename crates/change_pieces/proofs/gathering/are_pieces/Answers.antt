use Rattle.std.specs.Prelude.{ℕ, List, [], get_or, length}
use Rattle.std.proofs.Common.{refl, ◌∙◌, ap}
use Rattle.std.proofs.lemmas.List.{get_or-replicate, length-replicate}
use Rattle.change_pieces.specs.Pieces.{kept_faces}
use Rattle.change_pieces.proofs.GatherSteps.{gathered_none, all_gathered, pieces_have}
use Rattle.change_pieces.proofs.gathering.are_pieces.Goals as goal

pub returns : goal.returns
returns c = λ t.
    pieces_have c.args.vertices.now c.args.edges.now c.args.shells.now c.args.flag c.args.change.now c.gather_rims.new.counts
    (all_gathered c.args.vertices.now c.args.edges.now c.args.shells.now c.args.flag c.args.change.now c.as_slice.result.now c.as_slice-2.result.now c.gather_rims.new.counts
    c.as_slice.ensures c.as_slice-2.ensures
    (c.if-not-gather_rims.ensures refl (kept_faces c.as_slice.result.now)
    (c.if-not-gather_fates.ensures refl []
    (gathered_none c.args.vertices.now c.args.edges.now c.args.shells.now _ (ap (λ (xs : List ℕ). length xs) (c.as_mut_slice-counts.ensures.value ∙ c.in_ok-counts.ensures) ∙ length-replicate (length c.args.shells.now) 0)
    (λ k lt. ap (λ xs. get_or xs k 0) c.as_mut_slice-counts.ensures.value ∙ (ap (λ xs. get_or xs k 0) c.in_ok-counts.ensures ∙ get_or-replicate (length c.args.shells.now) k 0 0 lt))))))
    (c.have_all.ensures t)
