use Rattle.std.proofs.Common.{◌∙◌, sym, rules, SFits, w64, to_z, of_z}
use Rattle.std.proofs.lemmas.Int.{to_z-of_z}
use Rattle.list_compact.specs.Used.{is_used_edge, is_used_vertex}
use Rattle.list_compact.proofs.ValueSteps.{vertex_tuple, edge_tuple}
use Rattle.list_compact.proofs.values.tuple_index.Goals as goal

pub returns-then-is_vertex : goal.returns-then-is_vertex
returns-then-is_vertex c g t =
    let fits : SFits w64 c.index-then-is_vertex.result = search rules in
    let list_fits : SFits w64 c.list.result = search rules in
    let index_fits : SFits w64 c.index.result = search rules in
    to_z-of_z w64 c.index-then-is_vertex.result fits
    ∙ (c.index-then-is_vertex.ensures (is_used_vertex g) t.vertices_are.ranks t.vertices_are.covers
    ∙ vertex_tuple g c.args.tuple.now (to_z w64 (of_z w64 c.list.result)) (to_z w64 (of_z w64 c.index.result))
    (to_z-of_z w64 c.list.result list_fits ∙ c.list.ensures) (to_z-of_z w64 c.index.result index_fits ∙ c.index.ensures)
    (sym c.is_vertex.ensures ∙ c.if-is_vertex.true))

pub returns-else-is_vertex : goal.returns-else-is_vertex
returns-else-is_vertex c g t =
    let fits : SFits w64 c.index-else-is_vertex-2.result = search rules in
    let list_fits : SFits w64 c.list-else-is_vertex.result = search rules in
    let index_fits : SFits w64 c.index-else-is_vertex.result = search rules in
    to_z-of_z w64 c.index-else-is_vertex-2.result fits
    ∙ (c.index-else-is_vertex-2.ensures (is_used_edge g) t.edges_are.ranks t.edges_are.covers
    ∙ edge_tuple g c.args.tuple.now (to_z w64 (of_z w64 c.list-else-is_vertex.result)) (to_z w64 (of_z w64 c.index-else-is_vertex.result))
    (to_z-of_z w64 c.list-else-is_vertex.result list_fits ∙ c.list-else-is_vertex.ensures)
    (to_z-of_z w64 c.index-else-is_vertex.result index_fits ∙ c.index-else-is_vertex.ensures) (sym c.is_vertex.ensures ∙ c.if-is_vertex.false))
