use Rattle.std.proofs.Common.{ap, ◌∙◌, ◌++◌, ◌∷◌, []}
use Rattle.edge_uses.specs.declared.row.Row.{Row}
use Rattle.cert_state.specs.CheckState.{corner_size}
use Rattle.cert_state.proofs.VertexTallies.{row_within, mapped_more, starts_alone}
use Rattle.cert_state.proofs.tallies.start_sizes.Goals as goal

pub count_at-requires : goal.count_at-requires
count_at-requires c = row_within c.args.rows.now c.args.starts.now.span c.rows.i c.row_at.result c.requires.starts.rows c.requires.starts.span c.row_at.ensures

pub rows-preserved : goal.rows-preserved
rows-preserved c =
    let within = row_within c.args.rows.now c.args.starts.now.span c.rows.i c.row_at.result c.requires.starts.rows c.requires.starts.span c.row_at.ensures in
    mapped_more (λ (r : Row). corner_size c.args.rows.now r.from.0) c.args.rows.now.rows c.rows.i c.row_at.result c.rows.sizes.items _ _ c.row_at.ensures
    c.rows.invariant
    (c.in_ok-push.ensures.items ∙ ap (λ n. c.rows.sizes.items ++ n ∷ [])
    (c.count_at.ensures ∙ c.requires.starts.each c.row_at.result.from.0 within ∙ starts_alone c.args.rows.now c.row_at.result.from.0 c.requires.edges))
