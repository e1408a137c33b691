use Rattle.std.proofs.Common.{ap, ◌∙◌, ◌++◌, ◌∷◌, []}
use Rattle.edge_uses.specs.declared.row.Row.{Row}
use Rattle.cert_state.specs.CheckState.{corner_size}
use Rattle.cert_state.proofs.VertexTallies.{row_within, mapped_more}
use Rattle.cert_state.proofs.tallies.corner_sizes.Goals as goal

pub size_at-requires-clause-starts : goal.size_at-requires-clause-starts
size_at-requires-clause-starts c = row_within c.args.rows.now c.args.starts.now.span c.rows.i c.row_at.result c.requires.starts.rows c.requires.starts.span
    c.row_at.ensures

pub size_at-requires-clause-points : goal.size_at-requires-clause-points
size_at-requires-clause-points c = row_within c.args.rows.now c.args.points.now.span c.rows.i c.row_at.result c.requires.points.rows c.requires.points.span
    c.row_at.ensures

pub rows-preserved : goal.rows-preserved
rows-preserved c =
    mapped_more (λ (r : Row). corner_size c.args.rows.now r.from.0) c.args.rows.now.rows c.rows.i c.row_at.result c.rows.sizes.items _ _ c.row_at.ensures
    c.rows.invariant
    (c.in_ok-push.ensures.items ∙ ap (λ n. c.rows.sizes.items ++ n ∷ []) (c.size_at.ensures c.args.rows.now c.requires.starts c.requires.points))
