use Rattle.std.proofs.Common.{refl, sym, subst}
use Rattle.std.proofs.lemmas.Bool.{false≢true}
use Rattle.shell_change.specs.Fits.{FacesFit}
use Rattle.shell_change.specs.Matching.{EachAt}
use Rattle.shell_change.specs.Moves.{MoveFits}
use Rattle.shell_change.specs.Seams.{SeamFits}
use Rattle.shell_change.specs.UseFits.{NewEdgeFits}
use Rattle.shell_change.proofs.keeping.keeps_geometry.Goals as goal

pub returns-then-not-seams_fit : goal.returns-then-not-seams_fit
returns-then-not-seams_fit c = (
  (λ t. absurd (false≢true t)),
  (λ k. c.if-not-seams_fit.ensures.1 (subst (EachAt (λ _ x. SeamFits c.args.solid.now c.args.geometry.now x)) (sym c.as_slice-seams.ensures) k.seams)),
)

pub returns-then-not-moves_fit : goal.returns-then-not-moves_fit
returns-then-not-moves_fit c = (
  (λ t. absurd (false≢true t)),
  (λ k. c.if-not-moves_fit.ensures.1 (subst (EachAt (MoveFits c.args.solid.now c.args.geometry.now c.args.change.now)) (sym c.as_slice-moves.ensures) k.moves)),
)

pub returns-then-not-new_edges_fit : goal.returns-then-not-new_edges_fit
returns-then-not-new_edges_fit c = (
  (λ t. absurd (false≢true t)),
  (λ k. c.if-not-new_edges_fit.ensures.1 (subst (EachAt (λ _ n. NewEdgeFits c.args.solid.now c.args.geometry.now c.args.change.now n)) (sym c.as_slice-edges.ensures) k.edges)),
)

pub returns : goal.returns
returns c = (
  (λ t. record {
    faces = subst (FacesFit c.args.solid.now c.args.geometry.now c.args.change.now) c.shell-shell.ensures.item (c.shell_faces_fit.ensures.0 t);
    seams = subst (EachAt (λ _ x. SeamFits c.args.solid.now c.args.geometry.now x)) c.as_slice-seams.ensures (c.if-not-seams_fit.ensures.0 refl);
    moves = subst (EachAt (MoveFits c.args.solid.now c.args.geometry.now c.args.change.now)) c.as_slice-moves.ensures (c.if-not-moves_fit.ensures.0 refl);
    edges = subst (EachAt (λ _ n. NewEdgeFits c.args.solid.now c.args.geometry.now c.args.change.now n)) c.as_slice-edges.ensures (c.if-not-new_edges_fit.ensures.0 refl);
  }),
  (λ k. c.shell_faces_fit.ensures.1 (subst (FacesFit c.args.solid.now c.args.geometry.now c.args.change.now) (sym c.shell-shell.ensures.item) k.faces)),
)
