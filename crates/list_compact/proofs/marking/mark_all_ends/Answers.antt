use Rattle.std.proofs.Common.{◌∙◌, ◌≤◌, ◌+◌, ◌*◌, ◌||◌, ℕ, Bool, List, ap, take, length, flat_map, arith}
use Rattle.std.specs.List.{enumerate_from, list_any}
use Rattle.std.proofs.lemmas.List.{take_all}
use Rattle.std.proofs.lemmas.List.FromFn.{length-enumerate_from}
use Rattle.brep_lists.specs.declared.edge_list.EdgeTuple.{EdgeTuple}
use Rattle.entry_references.specs.Refs.{Record}
use Rattle.list_compact.specs.Marking.{IsOfItsKind, ends_by}
use Rattle.list_compact.specs.Used.{edges_in, has_end, used_from}
use Rattle.list_compact.proofs.MarkSteps.{at_record, flat_more, more_named, named_as}
use Rattle.list_compact.proofs.RowSizes.{row_size, enumerated_at}
use Rattle.list_compact.proofs.marking.mark_all_ends.Goals as goal

abbrev ends : (ℕ → ℕ → Bool) → ℕ × Record → List EdgeTuple
ends used p = used_from (used (2 * p.0 + 1)) 1 (edges_in p.1)

pub mark_entry_ends-requires-clause-of_kind : goal.mark_entry_ends-requires-clause-of_kind
mark_entry_ends-requires-clause-of_kind c =
    at_record IsOfItsKind c.args.file.now.entries c.entries.i (c.record_at-record.result.entry.now, c.record_at-record.result.values.now)
    c.requires.records.of_kind c.record_at-record.ensures.is

pub mark_entry_ends-requires-clause-size : goal.mark_entry_ends-requires-clause-size
mark_entry_ends-requires-clause-size c =
    row_size c.args.edges.now c.args.file.now.entries (λ (r : Record). length (edges_in r)) c.entries.i c.row.result.now
    (c.record_at-record.result.entry.now, c.record_at-record.result.values.now) c.requires.sizes c.row.ensures c.record_at-record.ensures.is

pub entries-preserved : goal.entries-preserved
entries-preserved c =
    let inv = c.entries.invariant in
    let m = c.mark_entry_ends.ensures in
    record {
      marked = λ edge_used used by_edges h. more_named has_end used c.mark_entry_ends.new.vertices
          (flat_map (ends edge_used) (take c.entries.i (enumerate_from 0 c.args.file.now.entries)))
          (ends edge_used (c.entries.i, (c.record_at-record.result.entry.now, c.record_at-record.result.values.now)))
          (flat_map (ends edge_used) (take (c.entries.i + 1) (enumerate_from 0 c.args.file.now.entries)))
          (flat_more (ends edge_used) (enumerate_from 0 c.args.file.now.entries) c.entries.i
          (c.entries.i, (c.record_at-record.result.entry.now, c.record_at-record.result.values.now))
          (enumerated_at c.args.file.now.entries c.entries.i (c.record_at-record.result.entry.now, c.record_at-record.result.values.now)
          c.record_at-record.ensures.is))
          (m.marked (edge_used (2 * c.entries.i + 1)) (λ j lt. by_edges c.entries.i j c.row.result.now c.row.ensures lt)
          (λ v j. used v j || list_any (has_end v j) (flat_map (ends edge_used) (take c.entries.i (enumerate_from 0 c.args.file.now.entries))))
          (inv.marked edge_used used by_edges h));
      sizes = m.sizes ∙ inv.sizes;
    }

pub returns-clause-marked : goal.returns-clause-marked
returns-clause-marked c edge_used used by_edges h =
    let inv = c.entries.invariant in
    let past : length (enumerate_from 0 c.args.file.now.entries) ≤ c.entries.i =
    omega (arith, c.entries-test.false, c.entry_count-count.ensures.is, length-enumerate_from 0 c.args.file.now.entries) in
    named_as has_end used c.entries.vertices (flat_map (ends edge_used) (take c.entries.i (enumerate_from 0 c.args.file.now.entries)))
    (ends_by edge_used c.args.file.now) (ap (flat_map (ends edge_used)) (take_all c.entries.i (enumerate_from 0 c.args.file.now.entries) past))
    (inv.marked edge_used used by_edges h)
