use Rattle.std.proofs.Common.{ap, ◌∙◌, ◌++◌, ◌∷◌, [], ℕ}
use Rattle.solid_data.specs.declared.solid.LoopAt.{LoopAt}
use Rattle.cert_state.specs.CheckState.{is_alone}
use Rattle.cert_state.proofs.VertexTallies.{point_within, mapped_more}
use Rattle.cert_state.proofs.tallies.alone_points.Goals as goal

pub alone_at-requires-clause-starts : goal.alone_at-requires-clause-starts
alone_at-requires-clause-starts c = point_within c.args.rows.now c.args.starts.now.span c.points.i (c.point_at.result.0, c.point_at.result.1.0)
    c.requires.starts.rows c.requires.starts.span c.point_at.ensures

pub alone_at-requires-clause-points : goal.alone_at-requires-clause-points
alone_at-requires-clause-points c = point_within c.args.rows.now c.args.points.now.span c.points.i (c.point_at.result.0, c.point_at.result.1.0)
    c.requires.points.rows c.requires.points.span c.point_at.ensures

pub points-preserved : goal.points-preserved
points-preserved c =
    mapped_more (λ (p : LoopAt × ℕ). is_alone c.args.rows.now p.1) c.args.rows.now.points c.points.i (c.point_at.result.0, c.point_at.result.1.0)
    c.points.alone.items _ _ c.point_at.ensures c.points.invariant
    (c.in_ok-push.ensures.items ∙ ap (λ b. c.points.alone.items ++ b ∷ []) (c.alone_at.ensures c.args.rows.now c.requires.starts c.requires.points))
