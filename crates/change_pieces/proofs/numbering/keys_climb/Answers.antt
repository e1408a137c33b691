use Rattle.std.proofs.Common.{refl, arith}
use Rattle.solid_data.specs.declared.solid.Edge.{Edge}
use Rattle.change_pieces.proofs.Steps.{climb_next, climb_done, no_claim}
use Rattle.change_pieces.proofs.numbering.keys_climb.Goals as goal

pub edges-init : goal.edges-init
edges-init c = λ h. h

pub returns-then-not-has_key : goal.returns-then-not-has_key
returns-then-not-has_key c = no_claim

pub edges-preserved : goal.edges-preserved
edges-preserved c =
    climb_next (λ (e : Edge). e.key.index) c.args.edges.now c.args.edges.now c.edges.i _ c.item_at.ensures (c.if-not-has_key.ensures refl) c.edges.invariant

pub returns : goal.returns
returns c = λ t. climb_done (λ (e : Edge). e.key.index) c.args.edges.now c.args.edges.now c.edges.i (omega arith) c.edges.invariant
