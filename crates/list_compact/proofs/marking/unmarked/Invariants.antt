use Rattle.std.proofs.Common.{◌≡◌, length, take}
use Rattle.entry_references.specs.Refs.{Record}
use Rattle.list_compact.specs.Used.{edges_in, vertices_in}
use Rattle.list_compact.proofs.MarkSteps.{blank_rows}
use Rattle.list_compact.proofs.marking.unmarked.Given as goal

abbrev pub invariant-entries : goal.invariant-entries
invariant-entries l = record {
  edges : l.marks.edges ≡ blank_rows (λ (r : Record). length (edges_in r)) (take l.i l.file.entries);
  vertices : l.marks.vertices ≡ blank_rows (λ (r : Record). length (vertices_in r)) (take l.i l.file.entries);
}
