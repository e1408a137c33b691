use Rattle.std.proofs.Common.{pos, length}
use Rattle.std.proofs.lemmas.Int.{to_z-of_z}
use mir.Syntax.{w64}
use Rattle.brep_lists.specs.declared.entity_kind.EntityKind.TheVariants.{VertexList as vertices}
use Rattle.brep_walk.specs.Places.{told}
use Rattle.brep_walk.proofs.KeptLists.{no_list, vertex_holds, vertex_fails, vertex_is}
use Rattle.brep_walk.proofs.lists.Lists.vertex.Goals as goal

pub returns-in_err-list-clause-fault : goal.returns-in_err-list-clause-fault
returns-in_err-list-clause-fault c =
    no_list vertices c.from_residual.result _ c.args.self.now (pos c.args.at.entity.0) c.args.at.item c.args.number _ c.args.index
    (length (told vertices c.args.self.now c.args.number)) (to_z-of_z w64 c.args.number c.ranges.number) c.in_err-list.ensures.fault c.from_residual.ensures.1

pub returns-in_err-index-clause-fault : goal.returns-in_err-index-clause-fault
returns-in_err-index-clause-fault c =
    vertex_fails c.args.self.now c.args.number _ (to_z-of_z w64 c.args.number c.ranges.number) (c.in_ok-list.list, c.in_ok-list.count) c.in_ok-list.ensures.list
    (pos c.args.at.entity.0) c.args.at.item c.args.index _ (to_z-of_z w64 c.args.index c.ranges.index) c.from_residual-in_err-index.result _
    c.in_err-index.ensures.fails c.from_residual-in_err-index.ensures.1

pub returns-clause-holds : goal.returns-clause-holds
returns-clause-holds c =
    vertex_holds c.args.self.now c.args.number _ (to_z-of_z w64 c.args.number c.ranges.number) (c.in_ok-list.list, c.in_ok-list.count) c.in_ok-list.ensures.list
    (pos c.args.at.entity.0) c.args.at.item c.args.index _ (to_z-of_z w64 c.args.index c.ranges.index) c.in_ok-index.ensures.holds

pub returns-clause-vertex : goal.returns-clause-vertex
returns-clause-vertex c =
    vertex_is c.args.self.now c.args.number _ (to_z-of_z w64 c.args.number c.ranges.number) (c.in_ok-list.list, c.in_ok-list.count) c.in_ok-list.ensures.list
    (pos c.args.at.entity.0) c.args.at.item c.args.index _ (to_z-of_z w64 c.args.index c.ranges.index) c.in_ok-index.index c.in_ok-index.ensures.index
