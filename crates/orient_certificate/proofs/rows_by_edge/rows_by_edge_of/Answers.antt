use Rattle.std.proofs.Common.{rules, ◌≡◌, ◌∙◌, subst, Some, slice_get}
use Rattle.solid_data.specs.Ranges.{IsSpanOf}
use Rattle.orient_certificate.proofs.Tallying.{row_few, row_known, row_seen, row_within, tally_first}
use Rattle.orient_certificate.proofs.rows_by_edge.rows_by_edge_of.Goals as goal

pub rows-init : goal.rows-init
rows-init c =
    tally_first c.args.rows.now c.in_ok-cells.cells (c.in_ok-cells.ensures.numbers ∙ c.edge_slice.ensures.items)
    (subst (IsSpanOf c.in_ok-cells.cells.span) c.edge_slice.ensures.items c.in_ok-cells.ensures.span) c.in_ok-cells.ensures.blank
    c.in_ok-cells.ensures.cells

pub see-requires-clause-known : goal.see-requires-clause-known
see-requires-clause-known c =
    let at : slice_get c.args.rows.now.rows c.rows.i ≡ Some c.unwrap.result = search rules in
    row_known c.args.rows.now c.rows.i c.rows.cells c.unwrap.result c.len-i-end.ensures.kept c.rows.invariant at

pub see-requires-clause-within : goal.see-requires-clause-within
see-requires-clause-within c =
    let at : slice_get c.args.rows.now.rows c.rows.i ≡ Some c.unwrap.result = search rules in
    row_within c.args.rows.now c.rows.i c.rows.cells c.unwrap.result c.len-i-end.ensures.kept c.rows.invariant at

pub see-requires-clause-few : goal.see-requires-clause-few
see-requires-clause-few c =
    let at : slice_get c.args.rows.now.rows c.rows.i ≡ Some c.unwrap.result = search rules in
    row_few c.args.rows.now c.rows.i c.rows.cells c.unwrap.result c.len-i-end.ensures.kept c.rows.invariant at

pub rows-preserved : goal.rows-preserved
rows-preserved c =
    let at : slice_get c.args.rows.now.rows c.rows.i ≡ Some c.unwrap.result = search rules in
    row_seen c.args.rows.now c.rows.i c.rows.cells c.unwrap.result c.len-i-end.ensures.kept c.rows.invariant at c.see.new.cells c.see.ensures
