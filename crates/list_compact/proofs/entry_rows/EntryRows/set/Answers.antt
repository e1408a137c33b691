use Rattle.std.proofs.Common.{◌≡◌, ◌∙◌, ap, arith, rules, length, vec_len}
use Rattle.std.specs.Prelude.{slice_index_or}
use Rattle.list_compact.specs.Rows.{start_of}
use Rattle.list_compact.proofs.RowSteps.{none_past, none_in_row, one_put, row_bounds}
use Rattle.list_compact.proofs.entry_rows.EntryRows.set.Goals as goal

pub returns-then-entry-len : goal.returns-then-entry-len
returns-then-entry-len g c =
    let long : vec_len c.self.inside.ends ≡ length c.self.inside.ends.items = search rules in
    none_past c.self.inside.ends.items c.self.inside.items.items c.args.self.now c.args.entry c.args.at c.args.item c.self.view_is
    (omega (arith, c.if-entry-len.true, c.len.ensures, long))

pub overflow_sub-span : goal.overflow_sub-span
overflow_sub-span g c =
    let long : vec_len c.self.inside.ends ≡ length c.self.inside.ends.items = search rules in
    (row_bounds c.self.inside.ends.items (length c.self.inside.items.items) c.args.entry c.span_of-span.result.start c.span_of-span.result.end c.self.invariant
    (omega (arith, c.if-entry-len.false, c.len.ensures, long)) (c.span_of-span.ensures.start ∙ ap (λ es. start_of es c.args.entry) c.as_slice.ensures.value)
    (c.span_of-span.ensures.end ∙ ap (λ es. slice_index_or es c.args.entry 0) c.as_slice.ensures.value)).0

pub index_mut-requires : goal.index_mut-requires
index_mut-requires g c =
    let long : vec_len c.self.inside.ends ≡ length c.self.inside.ends.items = search rules in
    let items : vec_len c.self.inside.items ≡ length c.self.inside.items.items = search rules in
    let b = row_bounds c.self.inside.ends.items (length c.self.inside.items.items) c.args.entry c.span_of-span.result.start c.span_of-span.result.end
    c.self.invariant (omega (arith, c.if-entry-len.false, c.len.ensures, long))
    (c.span_of-span.ensures.start ∙ ap (λ es. start_of es c.args.entry) c.as_slice.ensures.value)
    (c.span_of-span.ensures.end ∙ ap (λ es. slice_index_or es c.args.entry 0) c.as_slice.ensures.value) in
    omega (arith, b.0, b.1, items, c.if-at-span.true)

pub returns-then-at-span : goal.returns-then-at-span
returns-then-at-span g c =
    let long : vec_len c.self.inside.ends ≡ length c.self.inside.ends.items = search rules in
    one_put c.self.inside.ends.items c.self.inside.items.items c.args.self.now c.args.entry c.args.at c.span_of-span.result.start c.span_of-span.result.end
    c.args.item c.self.view_is c.self.invariant (omega (arith, c.if-entry-len.false, c.len.ensures, long))
    (c.span_of-span.ensures.start ∙ ap (λ es. start_of es c.args.entry) c.as_slice.ensures.value)
    (c.span_of-span.ensures.end ∙ ap (λ es. slice_index_or es c.args.entry 0) c.as_slice.ensures.value) c.if-at-span.true

pub returns-else-at-span : goal.returns-else-at-span
returns-else-at-span g c =
    let long : vec_len c.self.inside.ends ≡ length c.self.inside.ends.items = search rules in
    none_in_row c.self.inside.ends.items c.self.inside.items.items c.args.self.now c.args.entry c.args.at c.span_of-span.result.start c.span_of-span.result.end
    c.args.item c.self.view_is c.self.invariant (omega (arith, c.if-entry-len.false, c.len.ensures, long))
    (c.span_of-span.ensures.start ∙ ap (λ es. start_of es c.args.entry) c.as_slice.ensures.value)
    (c.span_of-span.ensures.end ∙ ap (λ es. slice_index_or es c.args.entry 0) c.as_slice.ensures.value) (omega (arith, c.if-at-span.false))
