use Rattle.std.proofs.Common.{◌∙◌, ◌<◌, ◌-◌, ap, arith, length, take, drop}
use Rattle.list_compact.specs.Rows.{start_of}
use Rattle.std.specs.Prelude.{slice_index_or}
use Rattle.list_compact.proofs.RowSteps.{rows_count, row_bounds, row_told}
use Rattle.list_compact.proofs.entry_rows.EntryRows.row.Goals as goal

pub span_of-span-requires : goal.span_of-span-requires
span_of-span-requires g c =
    omega (arith, c.requires, ap length c.as_slice.ensures.value, rows_count c.self.inside.ends.items c.self.inside.items.items c.args.self.now c.self.view_is)

pub part-requires-clause-rising : goal.part-requires-clause-rising
part-requires-clause-rising g c =
    let lt : c.args.i < length c.self.inside.ends.items =
    omega (arith, c.requires, rows_count c.self.inside.ends.items c.self.inside.items.items c.args.self.now c.self.view_is) in
    (row_bounds c.self.inside.ends.items (length c.self.inside.items.items) c.args.i c.span_of-span.result.start c.span_of-span.result.end c.self.invariant lt
    (c.span_of-span.ensures.start ∙ ap (λ es. start_of es c.args.i) c.as_slice.ensures.value)
    (c.span_of-span.ensures.end ∙ ap (λ es. slice_index_or es c.args.i 0) c.as_slice.ensures.value)).0

pub part-requires-clause-within : goal.part-requires-clause-within
part-requires-clause-within g c =
    let lt : c.args.i < length c.self.inside.ends.items =
    omega (arith, c.requires, rows_count c.self.inside.ends.items c.self.inside.items.items c.args.self.now c.self.view_is) in
    let b = row_bounds c.self.inside.ends.items (length c.self.inside.items.items) c.args.i c.span_of-span.result.start c.span_of-span.result.end
    c.self.invariant lt (c.span_of-span.ensures.start ∙ ap (λ es. start_of es c.args.i) c.as_slice.ensures.value)
    (c.span_of-span.ensures.end ∙ ap (λ es. slice_index_or es c.args.i 0) c.as_slice.ensures.value) in
    omega (arith, b.1, ap length c.as_slice-2.ensures.value)

pub returns : goal.returns
returns g c =
    let lt : c.args.i < length c.self.inside.ends.items =
    omega (arith, c.requires, rows_count c.self.inside.ends.items c.self.inside.items.items c.args.self.now c.self.view_is) in
    row_told c.self.inside.ends.items c.self.inside.items.items c.part.result.now c.args.self.now c.args.i c.span_of-span.result.start
    c.span_of-span.result.end c.self.view_is lt (c.span_of-span.ensures.start ∙ ap (λ es. start_of es c.args.i) c.as_slice.ensures.value)
    (c.span_of-span.ensures.end ∙ ap (λ es. slice_index_or es c.args.i 0) c.as_slice.ensures.value)
    (c.part.ensures ∙ ap (λ xs. take (c.span_of-span.result.end - c.span_of-span.result.start) (drop c.span_of-span.result.start xs))
    c.as_slice-2.ensures.value)
