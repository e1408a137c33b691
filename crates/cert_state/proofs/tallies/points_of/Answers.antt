use Rattle.std.proofs.Common.{arith, ℕ}
use Rattle.solid_data.specs.declared.solid.LoopAt.{LoopAt}
use Rattle.cert_state.proofs.VertexTallies.{lies_of, on_vertices, counts_none, counts_few, counts_step, point_known, point_within, points_counted}
use Rattle.cert_state.proofs.tallies.points_of.Goals as goal

pub points-init : goal.points-init
points-init c =
    counts_none (LoopAt × ℕ) lies_of c.args.rows.now.points c.args.rows.now c.in_ok-points.points
    (on_vertices c.args.rows.now c.in_ok-points.points c.vertex_slice.result.now c.vertex_slice.ensures.kept c.vertex_slice.ensures.items
    c.in_ok-points.ensures.numbers c.in_ok-points.ensures.span c.in_ok-points.ensures.blank c.in_ok-points.ensures.cells) c.in_ok-points.ensures.cells

pub add_one-requires-clause-known : goal.add_one-requires-clause-known
add_one-requires-clause-known c = point_known c.args.rows.now c.points.i (c.point_at.result.0, c.point_at.result.1.0) c.points.points c.points.invariant.on
    c.point_at.ensures

pub add_one-requires-clause-within : goal.add_one-requires-clause-within
add_one-requires-clause-within c = point_within c.args.rows.now c.points.points.span c.points.i (c.point_at.result.0, c.point_at.result.1.0)
    c.points.invariant.on.rows c.points.invariant.on.span c.point_at.ensures

pub add_one-requires-clause-few : goal.add_one-requires-clause-few
add_one-requires-clause-few c =
    counts_few (LoopAt × ℕ) lies_of c.args.rows.now.points c.points.i (c.point_at.result.0, c.point_at.result.1.0) c.args.rows.now c.points.points 536870912
    (point_within c.args.rows.now c.points.points.span c.points.i (c.point_at.result.0, c.point_at.result.1.0) c.points.invariant.on.rows
    c.points.invariant.on.span c.point_at.ensures) c.points.invariant c.points.invariant.on.rows.few_points

pub points-preserved : goal.points-preserved
points-preserved c =
    counts_step (LoopAt × ℕ) lies_of c.args.rows.now.points c.points.i (c.point_at.result.0, c.point_at.result.1.0) c.args.rows.now c.points.points
    c.add_one.new.counts c.point_at.ensures
    (point_within c.args.rows.now c.points.points.span c.points.i (c.point_at.result.0, c.point_at.result.1.0) c.points.invariant.on.rows
    c.points.invariant.on.span c.point_at.ensures) c.add_one.ensures c.points.invariant

pub returns : goal.returns
returns c = points_counted c.args.rows.now c.points.i c.points.points (omega (arith, c.isolated_count-i-end.ensures, c.points-test.false)) c.points.invariant
