use Rattle.std.proofs.Common.{◌∙◌, arith, subst}
use Rattle.solid_data.specs.Ranges.{IsSpanOf}
use Rattle.solid_faults.proofs.FanSteps.{fans_done, fans_first, fans_next, from_few, from_inside, from_known, on_vertices}
use Rattle.solid_faults.proofs.unlinking.fan_counts.Goals as goal

pub rows-init : goal.rows-init
rows-init c =
    fans_first c.args.rows.now c.args.leasts.now c.in_ok-counts.counts
    (on_vertices c.args.rows.now c.in_ok-counts.counts c.vertex_slice.ensures.kept (c.in_ok-counts.ensures.numbers ∙ c.vertex_slice.ensures.items)
    (subst (IsSpanOf c.in_ok-counts.counts.span) c.vertex_slice.ensures.items c.in_ok-counts.ensures.span) c.in_ok-counts.ensures.blank)
    c.in_ok-counts.ensures.cells

pub add_at-requires-clause-known : goal.add_at-requires-clause-known
add_at-requires-clause-known c = from_known c.args.rows.now c.args.leasts.now c.rows.i c.rows.counts c.row_at-row.result c.rows.invariant c.row_at-row.ensures

pub add_at-requires-clause-within : goal.add_at-requires-clause-within
add_at-requires-clause-within c = from_inside c.args.rows.now c.args.leasts.now c.rows.i c.rows.counts c.row_at-row.result c.rows.invariant c.row_at-row.ensures

pub add_at-requires-clause-blank : goal.add_at-requires-clause-blank
add_at-requires-clause-blank c = c.rows.invariant.on.blank

pub add_at-requires-clause-few : goal.add_at-requires-clause-few
add_at-requires-clause-few c = from_few c.args.rows.now c.args.leasts.now c.rows.i c.rows.counts c.row_at-row.result c.rows.invariant c.row_at-row.ensures

pub rows-preserved : goal.rows-preserved
rows-preserved c = fans_next c.args.rows.now c.args.leasts.now c.rows.i c.rows.counts c.row_at-row.result c.rows.invariant c.row_at-row.ensures
    c.least_at.result c.is_least-wanted.result c.add_at.new.counts c.least_at.ensures c.is_least-wanted.ensures c.add_at.ensures

pub returns-clause-cells : goal.returns-clause-cells
returns-clause-cells c = c.rows.invariant.on

pub returns-clause-counts : goal.returns-clause-counts
returns-clause-counts c = fans_done c.args.rows.now c.args.leasts.now c.rows.counts.span.least c.rows.counts.span.count c.rows.i c.rows.counts.cells
    (omega (arith, c.rows-test.false, c.len-i-end.ensures.count)) c.rows.invariant.counted
