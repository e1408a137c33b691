use Rattle.std.proofs.Common.{◌∙◌, ◌||◌, false}
use Rattle.std.specs.List.{list_any}
use Rattle.list_compact.specs.Marking.{AreMarks}
use Rattle.list_compact.specs.Used.{all_uses, names_vertex, is_used_edge}
use Rattle.list_compact.proofs.RowSizes.{edges_marked, vertices_marked}
use Rattle.list_compact.proofs.marking.used_items.Goals as goal

pub returns-clause-edges : goal.returns-clause-edges
returns-clause-edges c =
    edges_marked c.args.file.now c.requires c.mark_loops.new.marks.edges (c.mark_loops.ensures.edge_sizes ∙ c.in_ok-marks.ensures.edge_sizes)
    (c.mark_loops.ensures.edges (λ e j. false) c.in_ok-marks.ensures.edges)

pub returns-clause-vertices : goal.returns-clause-vertices
returns-clause-vertices c =
    let edges : AreMarks c.mark_loops.new.marks.edges (is_used_edge c.args.file.now) =
    edges_marked c.args.file.now c.requires c.mark_loops.new.marks.edges (c.mark_loops.ensures.edge_sizes ∙ c.in_ok-marks.ensures.edge_sizes)
    (c.mark_loops.ensures.edges (λ e j. false) c.in_ok-marks.ensures.edges) in
    vertices_marked c.args.file.now c.requires c.mark_all_ends.new.vertices
    (c.mark_all_ends.ensures.sizes ∙ (c.mark_loops.ensures.vertex_sizes ∙ c.in_ok-marks.ensures.vertex_sizes))
    (c.mark_all_ends.ensures.marked (is_used_edge c.args.file.now) (λ v j. false || list_any (names_vertex v j) (all_uses c.args.file.now)) edges
    (c.mark_loops.ensures.vertices (λ v j. false) c.in_ok-marks.ensures.vertices))
