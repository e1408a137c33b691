use Rattle.std.proofs.Common.{◌≡◌, ◌||◌, ℕ, Bool, take, flat_map}
use Rattle.std.specs.List.{list_any}
use Rattle.list_compact.specs.Marking.{AreMarks, sizes}
use Rattle.list_compact.specs.Used.{names_edge, names_vertex, tuples_in}
use Rattle.list_compact.proofs.marking.mark_loops.Given as goal

abbrev pub invariant-entries : goal.invariant-entries
invariant-entries l = record {
  edges : (used : ℕ → ℕ → Bool) → AreMarks l.fn.marks.edges used
      → AreMarks l.marks.edges (λ e j. used e j || list_any (names_edge e j) (flat_map tuples_in (take l.i l.file.entries)));
  vertices : (used : ℕ → ℕ → Bool) → AreMarks l.fn.marks.vertices used
      → AreMarks l.marks.vertices (λ v j. used v j || list_any (names_vertex v j) (flat_map tuples_in (take l.i l.file.entries)));
  edge_sizes : sizes l.marks.edges ≡ sizes l.fn.marks.edges;
  vertex_sizes : sizes l.marks.vertices ≡ sizes l.fn.marks.vertices;
}
