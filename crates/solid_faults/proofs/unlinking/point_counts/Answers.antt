use Rattle.std.proofs.Common.{◌∙◌, arith, subst}
use Rattle.solid_data.specs.Ranges.{IsSpanOf}
use Rattle.solid_faults.proofs.FanSteps.{on_vertices, point_few, point_inside, point_known, points_done, points_first, points_next}
use Rattle.solid_faults.proofs.unlinking.point_counts.Goals as goal

pub points-init : goal.points-init
points-init c =
    points_first c.args.rows.now c.in_ok-counts.counts
    (on_vertices c.args.rows.now c.in_ok-counts.counts c.vertex_slice.ensures.kept (c.in_ok-counts.ensures.numbers ∙ c.vertex_slice.ensures.items)
    (subst (IsSpanOf c.in_ok-counts.counts.span) c.vertex_slice.ensures.items c.in_ok-counts.ensures.span) c.in_ok-counts.ensures.blank)
    c.in_ok-counts.ensures.cells

pub add_at-requires-clause-known : goal.add_at-requires-clause-known
add_at-requires-clause-known c = point_known c.args.rows.now c.points.i c.points.counts c.point_at-point.result.1.0 c.point_at-point.result.0
    c.points.invariant c.point_at-point.ensures

pub add_at-requires-clause-within : goal.add_at-requires-clause-within
add_at-requires-clause-within c = point_inside c.args.rows.now c.points.i c.points.counts c.point_at-point.result.1.0 c.point_at-point.result.0
    c.points.invariant c.point_at-point.ensures

pub add_at-requires-clause-blank : goal.add_at-requires-clause-blank
add_at-requires-clause-blank c = c.points.invariant.on.blank

pub add_at-requires-clause-few : goal.add_at-requires-clause-few
add_at-requires-clause-few c = point_few c.args.rows.now c.points.i c.points.counts c.point_at-point.result.1.0 c.point_at-point.result.0 c.points.invariant
    c.point_at-point.ensures

pub points-preserved : goal.points-preserved
points-preserved c = points_next c.args.rows.now c.points.i c.points.counts c.point_at-point.result.1.0 c.point_at-point.result.0 c.points.invariant
    c.point_at-point.ensures c.add_at.new.counts c.add_at.ensures

pub returns-clause-cells : goal.returns-clause-cells
returns-clause-cells c = c.points.invariant.on

pub returns-clause-counts : goal.returns-clause-counts
returns-clause-counts c = points_done c.args.rows.now c.points.counts.span.least c.points.counts.span.count c.points.i c.points.counts.cells
    (omega (arith, c.points-test.false, c.isolated_count-i-end.ensures)) c.points.invariant.counted
