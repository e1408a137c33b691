use Rattle.std.proofs.Common.{◌≡◌, ℕ, ◌-◌, sym, ◌∙◌, ap, subst, Some, true, slice_get, option_map, get_or}
use Rattle.std.proofs.lemmas.Option.{same_Some, slice_get_within}
use Rattle.solid_data.specs.declared.solid.EdgeId.{EdgeId}
use Rattle.edge_uses.specs.ShellRows.{ShellRows}
use Rattle.edge_uses.specs.Mates.{RunsOn}
use Rattle.cert_maker.proofs.EdgeRows.{along_there, mate_against, has_mate, mate_of}
use Rattle.cert_maker.proofs.pairs.pair_of.Goals as goal

pub unwrap-requires : goal.unwrap-requires
unwrap-requires c =
    let at : slice_get c.args.paired.now.edges c.args.i ≡ Some c.unwrap-edge.result.0 =
    ap (λ (d : ShellRows). slice_get d.edges c.args.i) (sym c.rows.ensures.rows)
    ∙ (sym c.edge_at.ensures ∙ ap (option_map (λ (e : EdgeId). e.0)) c.unwrap-edge.ensures) in
    let runs = along_there c.args.paired.now c.args.span c.args.along.now c.args.i c.unwrap-edge.result.0 c.rows.ensures.whole at c.requires.along in
    has_mate _ _ _ _ c.mate.ensures (slice_get_within c.args.paired.now.rows _ runs.row runs.at)

pub returns : goal.returns
returns c e there =
    let at : slice_get c.args.paired.now.edges c.args.i ≡ Some c.unwrap-edge.result.0 =
    ap (λ (d : ShellRows). slice_get d.edges c.args.i) (sym c.rows.ensures.rows)
    ∙ (sym c.edge_at.ensures ∙ ap (option_map (λ (e : EdgeId). e.0)) c.unwrap-edge.ensures) in
    let same : e ≡ c.unwrap-edge.result.0 = same_Some e c.unwrap-edge.result.0 (sym there ∙ at) in
    let row : ℕ = get_or c.args.along.now (c.unwrap-edge.result.0 - c.args.span.least) 0 in
    let runs : RunsOn c.args.paired.now c.unwrap-edge.result.0 true row = along_there c.args.paired.now c.args.span c.args.along.now c.args.i
    c.unwrap-edge.result.0 c.rows.ensures.whole at c.requires.along in
    let here : RunsOn c.args.paired.now e true row = subst (λ n. RunsOn c.args.paired.now n true row) (sym same) runs in (
      here,
      mate_against c.args.paired.now e row c.unwrap.result.0 here
          (mate_of c.args.paired.now row c.mate.result c.unwrap.result c.mate.ensures c.unwrap.ensures),
    )
