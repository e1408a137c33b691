use Rattle.std.proofs.Common.{pos, subst, sym, ◌∙◌, length}
use Rattle.brep_walk.specs.Kept.{IsEdgeList}
use Rattle.std.proofs.lemmas.Int.{to_z-of_z}
use mir.Syntax.{w64}
use Rattle.brep_lists.specs.declared.entity_kind.EntityKind.TheVariants.{EdgeList as edges}
use Rattle.brep_walk.specs.Here.{edge_here}
use Rattle.brep_walk.specs.Places.{told}
use Rattle.brep_walk.specs.declared.fault.WalkFault.TheVariants.{NoMemory}
use Rattle.brep_walk.proofs.Faults.{handed}
use Rattle.brep_walk.proofs.KeptLists.{kept_edges, more_edges, edge_list_kept, opened_edges, no_list, kept_holds, kept_fails, kept_edge}
use Rattle.brep_walk.proofs.lists.Lists.edge.Goals as goal

pub edge_of-requires : goal.edge_of-requires
edge_of-requires c =
    (kept_edges _ _ c.self.view_is c.self.inside.edges c.self.inside.vertices c.self.invariant.0 c.args.number _ (to_z-of_z w64 c.args.number c.ranges.number)
    c.in-Some.field-0.now c.in-Some.ensures).few

pub returns-in_err-edge_of-clause-fault : goal.returns-in_err-edge_of-clause-fault
returns-in_err-edge_of-clause-fault c =
    kept_fails c.args.self.now c.args.number c.in-Some.field-0.now
    (kept_edges _ _ c.self.view_is c.self.inside.edges c.self.inside.vertices c.self.invariant.0 c.args.number _ (to_z-of_z w64 c.args.number c.ranges.number)
    c.in-Some.field-0.now c.in-Some.ensures)
    (pos c.args.at.entity.0) c.args.at.item c.args.index _ (to_z-of_z w64 c.args.index c.ranges.index) c.from_residual.result _ c.in_err-edge_of.ensures.fails
    c.from_residual.ensures.1

pub returns-in-Some-clause-holds : goal.returns-in-Some-clause-holds
returns-in-Some-clause-holds c =
    kept_holds c.args.self.now c.args.number c.in-Some.field-0.now
    (kept_edges _ _ c.self.view_is c.self.inside.edges c.self.inside.vertices c.self.invariant.0 c.args.number _ (to_z-of_z w64 c.args.number c.ranges.number)
    c.in-Some.field-0.now c.in-Some.ensures)
    (pos c.args.at.entity.0) c.args.at.item c.args.index _ (to_z-of_z w64 c.args.index c.ranges.index) c.in_ok-edge_of.ensures.holds

pub returns-in-Some-clause-edge : goal.returns-in-Some-clause-edge
returns-in-Some-clause-edge c =
    kept_edge c.args.self.now c.args.number c.in-Some.field-0.now
    (kept_edges _ _ c.self.view_is c.self.inside.edges c.self.inside.vertices c.self.invariant.0 c.args.number _ (to_z-of_z w64 c.args.number c.ranges.number)
    c.in-Some.field-0.now c.in-Some.ensures)
    (pos c.args.at.entity.0) c.args.at.item c.args.index _ (to_z-of_z w64 c.args.index c.ranges.index) c.args.numbering.now.keys c.in_ok-edge_of.field-0 c.in_ok-edge_of.ensures.edge

pub invariant_of-self-2 : goal.invariant_of-self-2
invariant_of-self-2 c = (
  more_edges _ c.self-2.inside.edges c.keep.new.self c.self-2.inside.vertices c.self-2.invariant.0 (c.in_ok-no.no, c.in_ok-no.list) c.in_ok-keep.ensures.kept
      (subst (λ f. IsEdgeList f (pos c.in_ok-no.no.0) (c.in_ok-no.no, c.in_ok-no.list)) (sym (c.self-2.view_is ∙ c.in_ok-no.ensures.file))
      (edge_list_kept c.args.self.now _ c.in_ok-no.no c.in_ok-no.list c.in_ok-no.ensures.holds c.in_ok-no.ensures.named.0 c.in_ok-no.ensures.named.1
      c.in_ok-no.ensures.few)),
  c.self-2.invariant.1,
)

pub invariant_of-self-in_err-edge : goal.invariant_of-self-in_err-edge
invariant_of-self-in_err-edge c = (
  more_edges _ c.self-2.inside.edges c.keep.new.self c.self-2.inside.vertices c.self-2.invariant.0 (c.in_ok-no.no, c.in_ok-no.list) c.in_ok-keep.ensures.kept
      (subst (λ f. IsEdgeList f (pos c.in_ok-no.no.0) (c.in_ok-no.no, c.in_ok-no.list)) (sym (c.self-2.view_is ∙ c.in_ok-no.ensures.file))
      (edge_list_kept c.args.self.now _ c.in_ok-no.no c.in_ok-no.list c.in_ok-no.ensures.holds c.in_ok-no.ensures.named.0 c.in_ok-no.ensures.named.1
      c.in_ok-no.ensures.few)),
  c.self-2.invariant.1,
)

pub returns-in_err-no-clause-fault : goal.returns-in_err-no-clause-fault
returns-in_err-no-clause-fault c =
    no_list edges c.from_residual-in_err-no.result _ c.args.self.now (pos c.args.at.entity.0) c.args.at.item c.args.number _ c.args.index
    (length (told edges c.args.self.now c.args.number)) (to_z-of_z w64 c.args.number c.ranges.number) c.in_err-no.ensures.fault
    c.from_residual-in_err-no.ensures.1

pub returns-in_err-keep-clause-fault : goal.returns-in_err-keep-clause-fault
returns-in_err-keep-clause-fault c =
    handed (edge_here c.args.self.now c.args.at c.args.number c.args.index) c.from_residual-in_err-keep.result NoMemory tt
    c.from_residual-in_err-keep.ensures.1

pub returns-in_err-edge-clause-fault : goal.returns-in_err-edge-clause-fault
returns-in_err-edge-clause-fault c =
    kept_fails c.args.self.now c.args.number (c.in_ok-no.no, c.in_ok-no.list)
    (opened_edges c.args.self.now c.args.number _ (to_z-of_z w64 c.args.number c.ranges.number) c.in_ok-no.no c.in_ok-no.list c.in_ok-no.ensures.holds
    c.in_ok-no.ensures.named.0 c.in_ok-no.ensures.named.1 c.in_ok-no.ensures.few)
    (pos c.args.at.entity.0) c.args.at.item c.args.index _ (to_z-of_z w64 c.args.index c.ranges.index) c.from_residual-in_err-edge.result _
    c.in_err-edge.ensures.fails c.from_residual-in_err-edge.ensures.1

pub returns-clause-holds : goal.returns-clause-holds
returns-clause-holds c =
    kept_holds c.args.self.now c.args.number (c.in_ok-no.no, c.in_ok-no.list)
    (opened_edges c.args.self.now c.args.number _ (to_z-of_z w64 c.args.number c.ranges.number) c.in_ok-no.no c.in_ok-no.list c.in_ok-no.ensures.holds
    c.in_ok-no.ensures.named.0 c.in_ok-no.ensures.named.1 c.in_ok-no.ensures.few)
    (pos c.args.at.entity.0) c.args.at.item c.args.index _ (to_z-of_z w64 c.args.index c.ranges.index) c.in_ok-edge.ensures.holds

pub returns-clause-edge : goal.returns-clause-edge
returns-clause-edge c =
    kept_edge c.args.self.now c.args.number (c.in_ok-no.no, c.in_ok-no.list)
    (opened_edges c.args.self.now c.args.number _ (to_z-of_z w64 c.args.number c.ranges.number) c.in_ok-no.no c.in_ok-no.list c.in_ok-no.ensures.holds
    c.in_ok-no.ensures.named.0 c.in_ok-no.ensures.named.1 c.in_ok-no.ensures.few)
    (pos c.args.at.entity.0) c.args.at.item c.args.index _ (to_z-of_z w64 c.args.index c.ranges.index) c.args.numbering.now.keys c.in_ok-edge.field-0 c.in_ok-edge.ensures.edge
