use Rattle.std.specs.Prelude.{Contains}
use Rattle.std.proofs.Common.{refl, sym, subst}
use Rattle.std.proofs.lemmas.Bool.{false≢true}
use Rattle.shell_change.specs.Matching.{EachAt}
use Rattle.shell_change.specs.declared.change.NewVertex.{NewVertex}
use Rattle.change_names.specs.Names.{UseIsOwn, NewEdgeIsOwn, SeamIsOwn}
use Rattle.change_names.proofs.names.are_own.Goals as goal

pub returns-then-not-uses_are_own : goal.returns-then-not-uses_are_own
returns-then-not-uses_are_own c =
    ((λ t. absurd (false≢true t)), (λ h. c.if-not-uses_are_own.ensures.1 (subst (EachAt (λ _ u. UseIsOwn c.args.rows.now u)) (sym c.requires) h.uses)))

pub returns-then-not-edges_are_own : goal.returns-then-not-edges_are_own
returns-then-not-edges_are_own c =
    ((λ t. absurd (false≢true t)), (λ h. c.if-not-edges_are_own.ensures.1 (subst (EachAt (λ _ n. NewEdgeIsOwn c.args.rows.now n)) (sym c.as_slice-edges.ensures) h.edges)))

pub returns-then-not-vertices_are_own : goal.returns-then-not-vertices_are_own
returns-then-not-vertices_are_own c =
    ((λ t. absurd (false≢true t)), (λ h. c.if-not-vertices_are_own.ensures.1 (subst (EachAt (λ _ (n : NewVertex). Contains c.args.rows.now.vertices n.like.0)) (sym c.as_slice-vertices.ensures) h.vertices)))

pub returns : goal.returns
returns c = (
  (λ t. record {
    uses = subst (EachAt (λ _ u. UseIsOwn c.args.rows.now u)) c.requires (c.if-not-uses_are_own.ensures.0 refl);
    edges = subst (EachAt (λ _ n. NewEdgeIsOwn c.args.rows.now n)) c.as_slice-edges.ensures (c.if-not-edges_are_own.ensures.0 refl);
    vertices = subst (EachAt (λ _ (n : NewVertex). Contains c.args.rows.now.vertices n.like.0)) c.as_slice-vertices.ensures (c.if-not-vertices_are_own.ensures.0 refl);
    seams = subst (EachAt (λ _ x. SeamIsOwn c.args.rows.now x)) c.as_slice-seams.ensures (c.seams_are_own.ensures.0 t);
  }),
  (λ h. c.seams_are_own.ensures.1 (subst (EachAt (λ _ x. SeamIsOwn c.args.rows.now x)) (sym c.as_slice-seams.ensures) h.seams)),
)
