use Rattle.std.proofs.Common.{◌≡◌, ℕ, Bool}
use Rattle.list_compact.specs.Marking.{AreMarks, sizes}
use Rattle.list_compact.specs.Used.{names_edge, names_vertex}
use Rattle.list_compact.proofs.MarkSteps.{GoneBy}
use Rattle.list_compact.proofs.marking.mark_loop.Given as goal

abbrev pub invariant-tuples : goal.invariant-tuples
invariant-tuples l = record {
  edges : (used : ℕ → ℕ → Bool) → AreMarks l.fn.marks.edges used → GoneBy names_edge used l.fn.listed l.tuple-iterator l.marks.edges;
  vertices : (used : ℕ → ℕ → Bool) → AreMarks l.fn.marks.vertices used → GoneBy names_vertex used l.fn.listed l.tuple-iterator l.marks.vertices;
  edge_sizes : sizes l.marks.edges ≡ sizes l.fn.marks.edges;
  vertex_sizes : sizes l.marks.vertices ≡ sizes l.fn.marks.vertices;
}
