use Rattle.std.specs.Prelude.{◌≡◌, Some}
use Rattle.std.proofs.Common.{refl, arith, subst}
use Rattle.shell_change.proofs.Matching.{none_below, one_below, all_below}
use Rattle.change_pieces.specs.Names.{StandOnce}
use Rattle.change_pieces.specs.declared.names.Name.{Name}
use Rattle.change_pieces.specs.OneName.{edge_name, place_by}
use Rattle.change_pieces.proofs.Steps.{no_claim, once}
use Rattle.change_pieces.proofs.names.edges_once.Goals as goal

pub names-init : goal.names-init
names-init c = none_below _ _

pub returns-then-not-is_place : goal.returns-then-not-is_place
returns-then-not-is_place c = no_claim

pub names-preserved : goal.names-preserved
names-preserved c =
    one_below (λ i name. place_by c.args.edges.now.places.is_near c.args.edges.now.places.least c.args.edges.now.places.old c.args.edges.now.places.slots.items c.args.edges.now.places.far.keys (edge_name name) ≡ Some i) c.as_slice-names.result.now c.names.i _ c.item_at.ensures
    (subst (λ (n : Name). place_by c.args.edges.now.places.is_near c.args.edges.now.places.least c.args.edges.now.places.old c.args.edges.now.places.slots.items c.args.edges.now.places.far.keys n ≡ Some c.names.i) c.name_of_edge.ensures
    (c.if-not-is_place.ensures refl)) c.names.invariant

pub returns : goal.returns
returns c = λ t.
    subst StandOnce c.as_slice-names.ensures.value
    (once (λ name. place_by c.args.edges.now.places.is_near c.args.edges.now.places.least c.args.edges.now.places.old c.args.edges.now.places.slots.items c.args.edges.now.places.far.keys (edge_name name)) c.as_slice-names.result.now
    (all_below (λ i name. place_by c.args.edges.now.places.is_near c.args.edges.now.places.least c.args.edges.now.places.old c.args.edges.now.places.slots.items c.args.edges.now.places.far.keys (edge_name name) ≡ Some i) c.as_slice-names.result.now c.names.i (omega arith) c.names.invariant))
