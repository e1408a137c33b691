use Rattle.std.proofs.Common.{◌∙◌, ◌≤◌, ap, length, arith}
use Rattle.std.proofs.lemmas.List.{take_all}
use Rattle.entry_references.specs.Refs.{Record}
use Rattle.list_compact.specs.Marking.{IsOfItsKind}
use Rattle.list_compact.specs.Used.{edges_in, vertices_in}
use Rattle.list_compact.proofs.MarkSteps.{at_record, blank_rows, blank_marks, blank_sizes, blank_more}
use Rattle.list_compact.proofs.marking.unmarked.Goals as goal

pub edge_count-requires : goal.edge_count-requires
edge_count-requires c = at_record IsOfItsKind c.args.file.now.entries c.entries.i (c.record_at-record.result.entry.now, c.record_at-record.result.values.now)
    c.requires.of_kind c.record_at-record.ensures.is

pub vertex_count-requires : goal.vertex_count-requires
vertex_count-requires c = at_record IsOfItsKind c.args.file.now.entries c.entries.i (c.record_at-record.result.entry.now, c.record_at-record.result.values.now)
    c.requires.of_kind c.record_at-record.ensures.is

pub entries-preserved : goal.entries-preserved
entries-preserved c =
    let inv = c.entries.invariant in
    record {
      edges = blank_more (λ (r : Record). length (edges_in r)) c.args.file.now.entries c.entries.i c.edge_count.result
          (c.record_at-record.result.entry.now, c.record_at-record.result.values.now) c.entries.marks.edges c.push.new.self c.record_at-record.ensures.is
          c.edge_count.ensures inv.edges c.in_ok-push.ensures;
      vertices = blank_more (λ (r : Record). length (vertices_in r)) c.args.file.now.entries c.entries.i c.vertex_count.result
          (c.record_at-record.result.entry.now, c.record_at-record.result.values.now) c.entries.marks.vertices c.push-in-entries.new.self
          c.record_at-record.ensures.is c.vertex_count.ensures inv.vertices c.in_ok-push-2.ensures;
    }

pub returns-clause-edges : goal.returns-clause-edges
returns-clause-edges c =
    let past : length c.args.file.now.entries ≤ c.entries.i = omega (arith, c.entries-test.false, c.entry_count-count.ensures.is) in
    blank_marks (λ (r : Record). length (edges_in r)) c.args.file.now.entries c.entries.marks.edges
    (c.entries.invariant.edges ∙ ap (blank_rows (λ (r : Record). length (edges_in r))) (take_all c.entries.i c.args.file.now.entries past))

pub returns-clause-vertices : goal.returns-clause-vertices
returns-clause-vertices c =
    let past : length c.args.file.now.entries ≤ c.entries.i = omega (arith, c.entries-test.false, c.entry_count-count.ensures.is) in
    blank_marks (λ (r : Record). length (vertices_in r)) c.args.file.now.entries c.entries.marks.vertices
    (c.entries.invariant.vertices ∙ ap (blank_rows (λ (r : Record). length (vertices_in r))) (take_all c.entries.i c.args.file.now.entries past))

pub returns-clause-edge_sizes : goal.returns-clause-edge_sizes
returns-clause-edge_sizes c =
    let past : length c.args.file.now.entries ≤ c.entries.i = omega (arith, c.entries-test.false, c.entry_count-count.ensures.is) in
    blank_sizes (λ (r : Record). length (edges_in r)) c.args.file.now.entries c.entries.marks.edges
    (c.entries.invariant.edges ∙ ap (blank_rows (λ (r : Record). length (edges_in r))) (take_all c.entries.i c.args.file.now.entries past))

pub returns-clause-vertex_sizes : goal.returns-clause-vertex_sizes
returns-clause-vertex_sizes c =
    let past : length c.args.file.now.entries ≤ c.entries.i = omega (arith, c.entries-test.false, c.entry_count-count.ensures.is) in
    blank_sizes (λ (r : Record). length (vertices_in r)) c.args.file.now.entries c.entries.marks.vertices
    (c.entries.invariant.vertices ∙ ap (blank_rows (λ (r : Record). length (vertices_in r))) (take_all c.entries.i c.args.file.now.entries past))
