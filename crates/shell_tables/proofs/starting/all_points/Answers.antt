use Rattle.std.proofs.Common.{arith}
use Rattle.shell_tables.specs.Starting.{no_points}
use Rattle.shell_tables.proofs.StartCells.{on_vertices, point_few, point_known, point_noted, point_within, points_first, points_noted}
use Rattle.shell_tables.proofs.starting.all_points.Goals as goal

pub points-init : goal.points-init
points-init c =
    points_first c.args.rows.now c.in_ok-points.points
    (on_vertices c.args.rows.now no_points c.in_ok-points.points c.vertex_slice.result.now c.vertex_slice.ensures.kept c.vertex_slice.ensures.items
    c.in_ok-points.ensures.numbers c.in_ok-points.ensures.span c.in_ok-points.ensures.blank c.in_ok-points.ensures.cells) c.in_ok-points.ensures.cells

pub note_point-requires-clause-known : goal.note_point-requires-clause-known
note_point-requires-clause-known c = point_known c.args.rows.now c.points.i c.points.points c.point_at.result.0 c.point_at.result.1.0 c.points.invariant
    c.point_at.ensures

pub note_point-requires-clause-within : goal.note_point-requires-clause-within
note_point-requires-clause-within c = point_within c.args.rows.now c.points.i c.points.points c.point_at.result.0 c.point_at.result.1.0 c.points.invariant
    c.point_at.ensures

pub note_point-requires-clause-few : goal.note_point-requires-clause-few
note_point-requires-clause-few c = point_few c.args.rows.now c.points.i c.points.points c.point_at.result.0 c.point_at.result.1.0 c.points.invariant
    c.point_at.ensures

pub points-preserved : goal.points-preserved
points-preserved c = point_noted c.args.rows.now c.points.i c.points.points c.point_at.result.0 c.point_at.result.1.0 c.points.invariant c.point_at.ensures
    c.note_point.new.points c.note_point.ensures

pub returns : goal.returns
returns c = points_noted c.args.rows.now c.points.i c.points.points (omega (arith, c.isolated_count-i-end.ensures, c.points-test.false)) c.points.invariant
