use Rattle.std.proofs.Common.{refl, arith}
use Rattle.std.proofs.Common.{subst}
use Rattle.solid_data.specs.declared.solid.Edge.{Edge}
use Rattle.shell_change.specs.declared.change.EdgeName.{EdgeName}
use Rattle.change_pieces.specs.Names.{ends_named, HasEnds}
use Rattle.shell_change.proofs.Matching.{none_below, pair_below, pairs_hold}
use Rattle.change_pieces.proofs.Steps.{no_claim}
use Rattle.change_pieces.proofs.ends.have_ends.Goals as goal

pub returns-then-names-edges : goal.returns-then-names-edges
returns-then-names-edges c = no_claim

pub edges-init : goal.edges-init
edges-init c = none_below _ c.args.edges.now

pub returns-then-not-has_ends : goal.returns-then-not-has_ends
returns-then-not-has_ends c = no_claim

pub edges-preserved : goal.edges-preserved
edges-preserved c =
    pair_below (λ (name : EdgeName) (e : Edge). HasEnds c.args.vertices.now (ends_named c.args.solid.now c.args.change.now name) e) c.args.names.now c.args.edges.now c.edges.i _ _ c.item_at-name.ensures c.item_at-edge.ensures
    (subst (λ o. HasEnds c.args.vertices.now o c.item_at-edge.result.now) c.ends_named.ensures (c.if-not-has_ends.ensures refl)) c.edges.invariant

pub returns : goal.returns
returns c = λ t. (pairs_hold (λ (name : EdgeName) (e : Edge). HasEnds c.args.vertices.now (ends_named c.args.solid.now c.args.change.now name) e) c.args.names.now c.args.edges.now c.edges.i c.if-names-edges.false (omega arith) c.edges.invariant).0 refl
