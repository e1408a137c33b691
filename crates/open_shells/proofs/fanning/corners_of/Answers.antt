use Rattle.std.proofs.Common.{◌∙◌, ◌≡◌, sym, ap, arith, Some, slice_get, length}
use Rattle.solid_data.specs.Ranges.{IsWithin}
use Rattle.edge_uses.proofs.Steps.{none_of}
use Rattle.edge_uses.specs.ShellRows.{ShellRows}
use Rattle.open_certificate.specs.Sound.{IsFanned}
use Rattle.open_shells.specs.FanParts.{LiesAt}
use Rattle.open_shells.proofs.OnceMates.{all_there, left_more, left_fails, zip_more, zip_done}
use Rattle.open_shells.proofs.FanWalks.{some_of}
use Rattle.open_shells.proofs.fanning.corners_of.Goals as goal

pub returns-in_default-clause-fault : goal.returns-in_default-clause-fault
returns-in_default-clause-fault c =
    left_fails (IsFanned c.args.mated.now) c.args.mated.now.vertices c.vertices.i c.vertex_at-vertex.result.0
    (ap (λ (d : ShellRows). slice_get d.vertices c.vertices.i) (sym c.rows-rows.ensures.rows) ∙ c.vertex_at-vertex.ensures) c.vertices.invariant.fanned
    (none_of _ _ _ c.in_default.not-Some c.in_ok-corner.ensures)

pub vertices-preserved : goal.vertices-preserved
vertices-preserved c =
    let at : slice_get c.args.mated.now.vertices c.vertices.i ≡ Some c.vertex_at-vertex.result.0 =
    ap (λ (d : ShellRows). slice_get d.vertices c.vertices.i) (sym c.rows-rows.ensures.rows) ∙ c.vertex_at-vertex.ensures in
    let there : LiesAt c.args.mated.now c.vertex_at-vertex.result.0 c.in-Some.corner × IsFanned c.args.mated.now c.vertex_at-vertex.result.0 =
    some_of _ c.in-Some.corner _ _ c.in-Some.is c.in_ok-corner.ensures in
    record {
      fanned = left_more (IsFanned c.args.mated.now) c.args.mated.now.vertices c.vertices.i c.vertex_at-vertex.result.0 at c.vertices.invariant.fanned there.1;
      lie = zip_more (LiesAt c.args.mated.now) c.args.mated.now.vertices c.vertices.i c.vertex_at-vertex.result.0 c.in-Some.corner c.vertices.corners
          c.push_corner.new.corners at there.0 c.in_ok-push_corner.ensures c.vertices.invariant.lie;
    }

pub returns-clause-corners : goal.returns-clause-corners
returns-clause-corners c =
    zip_done (LiesAt c.args.mated.now) c.args.mated.now.vertices c.vertices.i c.vertices.corners
    (omega (
      arith,
      c.vertices-test.false,
      c.vertices.auto.i-end,
      c.vertex_count-i-end.ensures,
      ap (λ (d : ShellRows). length d.vertices)
          c.rows-rows.ensures.rows,
    )) c.vertices.invariant.lie

pub corner_at-requires-clause-starts : goal.corner_at-requires-clause-starts
corner_at-requires-clause-starts c = c.starts_at.ensures c.args.mated.now c.requires.starts

pub corner_at-requires-clause-points : goal.corner_at-requires-clause-points
corner_at-requires-clause-points c = c.points_at.ensures c.args.mated.now c.requires.points

pub corner_at-requires-clause-head : goal.corner_at-requires-clause-head
corner_at-requires-clause-head c = c.head_at.ensures c.args.mated.now c.requires.heads

pub starts_at-requires : goal.starts_at-requires
starts_at-requires c =
    all_there (IsWithin c.args.starts.now.span) c.args.mated.now.vertices c.vertices.i c.vertex_at-vertex.result.0
    (ap (λ (d : ShellRows). slice_get d.vertices c.vertices.i) (sym c.rows-rows.ensures.rows) ∙ c.vertex_at-vertex.ensures) c.requires.starts.span.holds

pub points_at-requires : goal.points_at-requires
points_at-requires c =
    all_there (IsWithin c.args.points.now.span) c.args.mated.now.vertices c.vertices.i c.vertex_at-vertex.result.0
    (ap (λ (d : ShellRows). slice_get d.vertices c.vertices.i) (sym c.rows-rows.ensures.rows) ∙ c.vertex_at-vertex.ensures) c.requires.points.span.holds

pub head_at-requires : goal.head_at-requires
head_at-requires c =
    all_there (IsWithin c.args.heads.now.span) c.args.mated.now.vertices c.vertices.i c.vertex_at-vertex.result.0
    (ap (λ (d : ShellRows). slice_get d.vertices c.vertices.i) (sym c.rows-rows.ensures.rows) ∙ c.vertex_at-vertex.ensures) c.requires.heads.span.holds
