use Rattle.std.specs.Prelude.{option_copied, slice_get}
use Rattle.std.proofs.Common.{◌≡◌, ◌∙◌, Some, ◌+◌, ◌*◌, true, false, sym, ap, List, length, arith}
use Rattle.std.proofs.lemmas.List.{length-map}
use Rattle.std.specs.List.{enumerate_from}
use Rattle.iges_fields.specs.declared.value.Value.{Value}
use Rattle.iges_params.specs.Contents.{Contents}
use Rattle.entry_references.specs.Refs.{Record}
use Rattle.list_compact.specs.Used.{edges_in, vertices_in}
use Rattle.list_compact.specs.Dropped.{dropped_record}
use Rattle.list_compact.specs.Marking.{AreTables, HasType, IsOfItsKind}
use Rattle.list_compact.proofs.FileSteps.{all_put, edge_rows_few, vertex_rows_few, entry_room, tables_are}
use Rattle.list_compact.proofs.Emptied.{next_emptied, none_emptied, taken_at, taken_short}
use Rattle.list_compact.proofs.MarkSteps.{at_record}
use Rattle.list_compact.proofs.RankSteps.{next_row}
use Rattle.list_compact.proofs.RowSizes.{row_size, enumerated_at}
use Rattle.list_compact.proofs.dropping.put_dropped.Goals as goal

pub ranks_by-requires : goal.ranks_by-requires
ranks_by-requires c = edge_rows_few c.args.file.now c.requires.records c.entry_count-count.ensures.made c.args.marks.now.edges c.requires.edge_sizes

pub ranks_by-requires-2 : goal.ranks_by-requires-2
ranks_by-requires-2 c = vertex_rows_few c.args.file.now c.requires.records c.entry_count-count.ensures.made c.args.marks.now.vertices c.requires.vertex_sizes

pub entries-init : goal.entries-init
entries-init c = record { left = none_emptied c.args.file.now; entries = c.requires.blank }

pub row-edges-requires : goal.row-edges-requires
row-edges-requires c =
    omega (
      arith,
      c.entries-test.true,
      c.entry_count-count.ensures.is,
      ap length c.requires.edge_sizes,
      length-map c.args.file.now.entries
          (λ (r : Record). length (edges_in r)),
      length-map c.args.marks.now.edges (λ (x : List _). length x),
    )

pub row-vertices-requires : goal.row-vertices-requires
row-vertices-requires c =
    omega (
      arith,
      c.entries-test.true,
      c.entry_count-count.ensures.is,
      ap length c.requires.vertex_sizes,
      length-map c.args.file.now.entries
          (λ (r : Record). length (vertices_in r)),
      length-map c.args.marks.now.vertices (λ (x : List _). length x),
    )

pub record_values-requires-clause-short : goal.record_values-requires-clause-short
record_values-requires-clause-short c =
    let at : slice_get c.args.file.now.entries c.entries.i ≡ Some (c.unwrap.result.now, c.take_values-taken.result) =
    taken_at c.args.file.now c.entries.file c.entries.i c.entries.invariant.left c.unwrap.result.now
    (sym c.entry_at.ensures.entry ∙ ap option_copied c.unwrap.ensures) c.take_values-taken.result c.take_values-taken.ensures.taken in
    taken_short c.args.file.now c.requires.records c.entry_count-count.ensures.made c.entries.i (c.unwrap.result.now, c.take_values-taken.result) at

pub record_values-requires-clause-of_kind : goal.record_values-requires-clause-of_kind
record_values-requires-clause-of_kind c =
    let at : slice_get c.args.file.now.entries c.entries.i ≡ Some (c.unwrap.result.now, c.take_values-taken.result) =
    taken_at c.args.file.now c.entries.file c.entries.i c.entries.invariant.left c.unwrap.result.now
    (sym c.entry_at.ensures.entry ∙ ap option_copied c.unwrap.ensures) c.take_values-taken.result c.take_values-taken.ensures.taken in
    at_record IsOfItsKind c.args.file.now.entries c.entries.i (c.unwrap.result.now, c.take_values-taken.result) c.requires.records.of_kind at

pub record_values-requires-clause-edge_size : goal.record_values-requires-clause-edge_size
record_values-requires-clause-edge_size c =
    let at : slice_get c.args.file.now.entries c.entries.i ≡ Some (c.unwrap.result.now, c.take_values-taken.result) =
    taken_at c.args.file.now c.entries.file c.entries.i c.entries.invariant.left c.unwrap.result.now
    (sym c.entry_at.ensures.entry ∙ ap option_copied c.unwrap.ensures) c.take_values-taken.result c.take_values-taken.ensures.taken in
    row_size c.args.marks.now.edges c.args.file.now.entries (λ (r : Record). length (edges_in r)) c.entries.i c.row-edges.result.now
    (c.unwrap.result.now, c.take_values-taken.result) c.requires.edge_sizes c.row-edges.ensures at

pub record_values-requires-clause-vertex_size : goal.record_values-requires-clause-vertex_size
record_values-requires-clause-vertex_size c =
    let at : slice_get c.args.file.now.entries c.entries.i ≡ Some (c.unwrap.result.now, c.take_values-taken.result) =
    taken_at c.args.file.now c.entries.file c.entries.i c.entries.invariant.left c.unwrap.result.now
    (sym c.entry_at.ensures.entry ∙ ap option_copied c.unwrap.ensures) c.take_values-taken.result c.take_values-taken.ensures.taken in
    row_size c.args.marks.now.vertices c.args.file.now.entries (λ (r : Record). length (vertices_in r)) c.entries.i c.row-vertices.result.now
    (c.unwrap.result.now, c.take_values-taken.result) c.requires.vertex_sizes c.row-vertices.ensures at

pub push-requires-clause-unused : goal.push-requires-clause-unused
push-requires-clause-unused c t =
    let at : slice_get c.args.file.now.entries c.entries.i ≡ Some (c.unwrap.result.now, c.take_values-taken.result) =
    taken_at c.args.file.now c.entries.file c.entries.i c.entries.invariant.left c.unwrap.result.now
    (sym c.entry_at.ensures.entry ∙ ap option_copied c.unwrap.ensures) c.take_values-taken.result c.take_values-taken.ensures.taken in
    let typed : HasType (c.unwrap.result.now, c.take_values-taken.result) =
    at_record HasType c.args.file.now.entries c.entries.i (c.unwrap.result.now, c.take_values-taken.result) c.requires.records.typed at in
    let never : true ≡ false = sym t ∙ typed in absurd cc

pub push-requires-clause-few : goal.push-requires-clause-few
push-requires-clause-few c =
    let at : slice_get c.args.file.now.entries c.entries.i ≡ Some (c.unwrap.result.now, c.take_values-taken.result) =
    taken_at c.args.file.now c.entries.file c.entries.i c.entries.invariant.left c.unwrap.result.now
    (sym c.entry_at.ensures.entry ∙ ap option_copied c.unwrap.ensures) c.take_values-taken.result c.take_values-taken.ensures.taken in
    let g = c.args.file.now in
    let tables : AreTables c.args.file.now c.in_ok-ranks_by.field-0 c.in_ok-ranks_by-2.field-0 =
    tables_are c.args.file.now c.requires.records c.entry_count-count.ensures.made c.args.marks.now.edges c.args.marks.now.vertices c.in_ok-ranks_by.field-0
    c.in_ok-ranks_by-2.field-0 c.requires.edge_sizes c.requires.vertex_sizes c.requires.edges c.requires.vertices c.in_ok-ranks_by.ensures
    c.in_ok-ranks_by-2.ensures in
    let values = c.in_ok-values.ensures c.args.file.now (2 * c.entries.i + 1) tables
    (λ j lt. c.requires.edges c.entries.i j c.row-edges.result.now c.row-edges.ensures lt)
    (λ j lt. c.requires.vertices c.entries.i j c.row-vertices.result.now c.row-vertices.ensures lt) in
    entry_room c.args.file.now c.requires.records c.entry_count-count.ensures.made c.entries.i (c.unwrap.result.now, c.take_values-taken.result)
    c.in_ok-values.values c.entries.new.entries
    (enumerated_at c.args.file.now.entries c.entries.i (c.unwrap.result.now, c.take_values-taken.result) at) values c.entries.invariant.entries

pub entries-preserved : goal.entries-preserved
entries-preserved c =
    let at : slice_get c.args.file.now.entries c.entries.i ≡ Some (c.unwrap.result.now, c.take_values-taken.result) =
    taken_at c.args.file.now c.entries.file c.entries.i c.entries.invariant.left c.unwrap.result.now
    (sym c.entry_at.ensures.entry ∙ ap option_copied c.unwrap.ensures) c.take_values-taken.result c.take_values-taken.ensures.taken in
    let tables : AreTables c.args.file.now c.in_ok-ranks_by.field-0 c.in_ok-ranks_by-2.field-0 =
    tables_are c.args.file.now c.requires.records c.entry_count-count.ensures.made c.args.marks.now.edges c.args.marks.now.vertices c.in_ok-ranks_by.field-0
    c.in_ok-ranks_by-2.field-0 c.requires.edge_sizes c.requires.vertex_sizes c.requires.edges c.requires.vertices c.in_ok-ranks_by.ensures
    c.in_ok-ranks_by-2.ensures in
    let values = c.in_ok-values.ensures c.args.file.now (2 * c.entries.i + 1) tables
    (λ j lt. c.requires.edges c.entries.i j c.row-edges.result.now c.row-edges.ensures lt)
    (λ j lt. c.requires.vertices c.entries.i j c.row-vertices.result.now c.row-vertices.ensures lt) in
    let put = c.in_ok-push.ensures.ok in
    let inv = c.entries.invariant in
    record {
      left = next_emptied c.args.file.now c.entries.file c.entries.i inv.left c.unwrap.result.now
          (sym c.entry_at.ensures.entry ∙ ap option_copied c.unwrap.ensures) c.take_values-taken.new.self
          (omega (arith, c.entries-test.true, c.entry_count-count.ensures.is, inv.left.long)) c.take_values-taken.ensures.left;
      entries = next_row (dropped_record c.args.file.now) (enumerate_from 0 c.args.file.now.entries) c.entries.i
          (c.entries.i, (c.unwrap.result.now, c.take_values-taken.result)) (c.unwrap.result.now, c.in_ok-values.values) c.entries.new.entries
          c.push.new.self.entries
          (enumerated_at c.args.file.now.entries c.entries.i (c.unwrap.result.now, c.take_values-taken.result) at)
          (ap (λ (vs : List Value). let r : Record = (c.unwrap.result.now, vs) in r) values) inv.entries (ap (λ (x : Contents). x.entries) put);
    }

pub returns-clause-start : goal.returns-clause-start
returns-clause-start c = c.entries.invariant.left.start

pub returns-clause-global : goal.returns-clause-global
returns-clause-global c = c.entries.invariant.left.global

pub returns-clause-entries : goal.returns-clause-entries
returns-clause-entries c = all_put c.args.file.now c.entries.new.entries c.entries.i c.entries.invariant.entries
    (omega (arith, c.entries-test.false, c.entry_count-count.ensures.is))
