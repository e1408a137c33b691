use Rattle.std.proofs.Common.{arith, length, ap, subst, ◌∙◌}
use Rattle.solid_data.specs.Ranges.{IsSpanOf}
use Rattle.edge_uses.proofs.Tallies.{next_few, next_known, next_seen, next_within, seen_done, tally_first}
use Rattle.edge_uses.proofs.tally.tally_of.Goals as goal

pub rows-init : goal.rows-init
rows-init c = tally_first c.args.rows.now c.in_ok-cells.cells (c.in_ok-cells.ensures.numbers ∙ c.edge_slice.ensures.items)
    (subst (IsSpanOf c.in_ok-cells.cells.span) c.edge_slice.ensures.items c.in_ok-cells.ensures.span) c.in_ok-cells.ensures.blank c.in_ok-cells.ensures.cells

pub see-requires-clause-known : goal.see-requires-clause-known
see-requires-clause-known c = next_known c.args.rows.now c.rows.i c.rows.cells c.row_slice-rows.result.now _ c.len-count.ensures.kept c.rows.invariant
    c.row_slice-rows.ensures (omega (arith, c.rows-test.true, c.len-count.ensures.count, ap (λ rs. length rs) c.row_slice-rows.ensures))

pub see-requires-clause-within : goal.see-requires-clause-within
see-requires-clause-within c = next_within c.args.rows.now c.rows.i c.rows.cells c.row_slice-rows.result.now _ c.len-count.ensures.kept c.rows.invariant
    c.row_slice-rows.ensures (omega (arith, c.rows-test.true, c.len-count.ensures.count, ap (λ rs. length rs) c.row_slice-rows.ensures))

pub see-requires-clause-few : goal.see-requires-clause-few
see-requires-clause-few c = next_few c.args.rows.now c.rows.i c.rows.cells c.row_slice-rows.result.now _ c.len-count.ensures.kept c.rows.invariant
    c.row_slice-rows.ensures (omega (arith, c.rows-test.true, c.len-count.ensures.count, ap (λ rs. length rs) c.row_slice-rows.ensures))

pub rows-preserved : goal.rows-preserved
rows-preserved c =
    next_seen c.args.rows.now c.rows.i c.rows.cells c.row_slice-rows.result.now _ c.len-count.ensures.kept c.rows.invariant c.row_slice-rows.ensures
    (omega (arith, c.rows-test.true, c.len-count.ensures.count, ap (λ rs. length rs) c.row_slice-rows.ensures))
    c.see.new.cells c.see.ensures

pub returns-clause-tally : goal.returns-clause-tally
returns-clause-tally c e within = seen_done c.args.rows.now c.rows.i e _ (omega (arith, c.rows-test.false, c.len-count.ensures.count))
    (c.rows.invariant.each e within)
