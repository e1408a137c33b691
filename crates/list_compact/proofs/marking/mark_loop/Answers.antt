use Rattle.std.proofs.Common.{◌∙◌, refl, rules}
use Rattle.list_compact.specs.Used.{names_edge, names_vertex}
use Rattle.list_compact.proofs.MarkSteps.{none_gone, one_gone, all_gone}
use Rattle.list_compact.proofs.marking.mark_loop.Goals as goal

pub tuples-init : goal.tuples-init
tuples-init c = record {
  edges = λ used h. none_gone names_edge used c.args.listed.now c.args.marks.now.edges c.into_iter-tuple-iterator.result (search rules) h;
  vertices = λ used h. none_gone names_vertex used c.args.listed.now c.args.marks.now.vertices c.into_iter-tuple-iterator.result (search rules) h;
  edge_sizes = refl;
  vertex_sizes = refl;
}

pub tuples-preserved : goal.tuples-preserved
tuples-preserved c =
    let inv = c.tuples.invariant in
    record {
      edges = λ used h. one_gone names_edge used c.args.listed.now c.tuples.marks.edges c.mark_tuple.new.marks.edges c.tuples.tuple-iterator c.next.new.self
          c.in-Some.tuple c.in-Some.ensures.steps (inv.edges used h) c.mark_tuple.ensures.edges;
      vertices = λ used h. one_gone names_vertex used c.args.listed.now c.tuples.marks.vertices c.mark_tuple.new.marks.vertices c.tuples.tuple-iterator
          c.next.new.self c.in-Some.tuple c.in-Some.ensures.steps (inv.vertices used h) c.mark_tuple.ensures.vertices;
      edge_sizes = c.mark_tuple.ensures.edge_sizes ∙ inv.edge_sizes;
      vertex_sizes = c.mark_tuple.ensures.vertex_sizes ∙ inv.vertex_sizes;
    }

pub returns-clause-edges : goal.returns-clause-edges
returns-clause-edges c used h = all_gone names_edge used c.args.listed.now c.tuples.marks.edges c.tuples.tuple-iterator (search rules)
    (c.tuples.invariant.edges used h)

pub returns-clause-vertices : goal.returns-clause-vertices
returns-clause-vertices c used h = all_gone names_vertex used c.args.listed.now c.tuples.marks.vertices c.tuples.tuple-iterator (search rules)
    (c.tuples.invariant.vertices used h)
