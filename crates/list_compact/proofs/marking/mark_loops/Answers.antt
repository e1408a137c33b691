use Rattle.std.proofs.Common.{◌∙◌, ◌≤◌, ◌+◌, ◌||◌, ap, take, length, flat_map, arith}
use Rattle.std.specs.List.{list_any}
use Rattle.std.proofs.lemmas.List.{take_all}
use Rattle.list_compact.specs.Marking.{IsOfItsKind}
use Rattle.list_compact.specs.Used.{names_edge, names_vertex, tuples_in, all_uses}
use Rattle.list_compact.proofs.MarkSteps.{at_record, flat_more, more_named, named_as}
use Rattle.list_compact.proofs.marking.mark_loops.Goals as goal

pub mark_entry-requires : goal.mark_entry-requires
mark_entry-requires c = at_record IsOfItsKind c.args.file.now.entries c.entries.i (c.record_at-record.result.entry.now, c.record_at-record.result.values.now)
    c.requires.of_kind c.record_at-record.ensures.is

pub entries-preserved : goal.entries-preserved
entries-preserved c =
    let es = c.args.file.now.entries in
    let i = c.entries.i in
    let inv = c.entries.invariant in
    let m = c.mark_entry.ensures in
    record {
      edges = λ used h. more_named names_edge used c.mark_entry.new.marks.edges (flat_map tuples_in (take c.entries.i c.args.file.now.entries))
          (tuples_in (c.record_at-record.result.entry.now, c.record_at-record.result.values.now))
          (flat_map tuples_in (take (c.entries.i + 1) c.args.file.now.entries))
          (flat_more tuples_in c.args.file.now.entries c.entries.i (c.record_at-record.result.entry.now, c.record_at-record.result.values.now)
          c.record_at-record.ensures.is)
          (m.edges (λ e j. used e j || list_any (names_edge e j) (flat_map tuples_in (take c.entries.i c.args.file.now.entries))) (inv.edges used h));
      vertices = λ used h. more_named names_vertex used c.mark_entry.new.marks.vertices (flat_map tuples_in (take c.entries.i c.args.file.now.entries))
          (tuples_in (c.record_at-record.result.entry.now, c.record_at-record.result.values.now))
          (flat_map tuples_in (take (c.entries.i + 1) c.args.file.now.entries))
          (flat_more tuples_in c.args.file.now.entries c.entries.i (c.record_at-record.result.entry.now, c.record_at-record.result.values.now)
          c.record_at-record.ensures.is)
          (m.vertices (λ e j. used e j || list_any (names_vertex e j) (flat_map tuples_in (take c.entries.i c.args.file.now.entries))) (inv.vertices used h));
      edge_sizes = m.edge_sizes ∙ inv.edge_sizes;
      vertex_sizes = m.vertex_sizes ∙ inv.vertex_sizes;
    }

pub returns-clause-edges : goal.returns-clause-edges
returns-clause-edges c used h =
    let inv = c.entries.invariant in
    let past : length c.args.file.now.entries ≤ c.entries.i = omega (arith, c.entries-test.false, c.entry_count-count.ensures.is) in
    named_as names_edge used c.entries.marks.edges (flat_map tuples_in (take c.entries.i c.args.file.now.entries)) (all_uses c.args.file.now)
    (ap (flat_map tuples_in) (take_all c.entries.i c.args.file.now.entries past)) (inv.edges used h)

pub returns-clause-vertices : goal.returns-clause-vertices
returns-clause-vertices c used h =
    let inv = c.entries.invariant in
    let past : length c.args.file.now.entries ≤ c.entries.i = omega (arith, c.entries-test.false, c.entry_count-count.ensures.is) in
    named_as names_vertex used c.entries.marks.vertices (flat_map tuples_in (take c.entries.i c.args.file.now.entries)) (all_uses c.args.file.now)
    (ap (flat_map tuples_in) (take_all c.entries.i c.args.file.now.entries past)) (inv.vertices used h)
