use Rattle.std.proofs.Common.{◌∙◌, sym, rules, SFits, w64, to_z, of_z}
use Rattle.std.proofs.lemmas.Int.{to_z-of_z}
use Rattle.list_compact.proofs.MarkSteps.{vertex_marks, edge_marks, vertices_stay, edges_stay}
use Rattle.list_compact.proofs.marking.mark_tuple.Goals as goal

pub returns-then-is_vertex-clause-edges : goal.returns-then-is_vertex-clause-edges
returns-then-is_vertex-clause-edges c used h = edges_stay c.args.marks.now.edges used c.args.tuple.now (sym c.is_vertex.ensures ∙ c.if-is_vertex.true) h

pub returns-then-is_vertex-clause-vertices : goal.returns-then-is_vertex-clause-vertices
returns-then-is_vertex-clause-vertices c used h =
    let list_fits : SFits w64 c.list.result = search rules in
    let index_fits : SFits w64 c.index.result = search rules in
    vertex_marks c.mark.new.self used c.args.tuple.now (to_z w64 (of_z w64 c.list.result)) (to_z w64 (of_z w64 c.index.result))
    (to_z-of_z w64 c.list.result list_fits ∙ c.list.ensures) (to_z-of_z w64 c.index.result index_fits ∙ c.index.ensures)
    (sym c.is_vertex.ensures ∙ c.if-is_vertex.true)
    (c.mark.ensures.marked used h)

pub returns-else-is_vertex-clause-edges : goal.returns-else-is_vertex-clause-edges
returns-else-is_vertex-clause-edges c used h =
    let list_fits : SFits w64 c.list-else-is_vertex.result = search rules in
    let index_fits : SFits w64 c.index-else-is_vertex.result = search rules in
    edge_marks c.mark-else-is_vertex.new.self used c.args.tuple.now (to_z w64 (of_z w64 c.list-else-is_vertex.result))
    (to_z w64 (of_z w64 c.index-else-is_vertex.result)) (to_z-of_z w64 c.list-else-is_vertex.result list_fits ∙ c.list-else-is_vertex.ensures)
    (to_z-of_z w64 c.index-else-is_vertex.result index_fits ∙ c.index-else-is_vertex.ensures) (sym c.is_vertex.ensures ∙ c.if-is_vertex.false)
    (c.mark-else-is_vertex.ensures.marked used h)

pub returns-else-is_vertex-clause-vertices : goal.returns-else-is_vertex-clause-vertices
returns-else-is_vertex-clause-vertices c used h = vertices_stay c.args.marks.now.vertices used c.args.tuple.now
    (sym c.is_vertex.ensures ∙ c.if-is_vertex.false) h
