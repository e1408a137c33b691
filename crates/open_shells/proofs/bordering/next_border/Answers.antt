use Rattle.std.proofs.Common.{rules, sym, ap, ◌∙◌, ◌≡◌}
use Rattle.std.specs.Prelude.{Some, slice_get}
use Rattle.edge_uses.specs.ShellRows.{ShellRows}
use Rattle.open_shells.proofs.BorderRows.{next_is, next_some}
use Rattle.open_shells.proofs.HeadCells.{border_there, to_within}
use Rattle.open_shells.proofs.bordering.next_border.Goals as goal

pub at-requires : goal.at-requires
at-requires c =
    let here : slice_get c.args.mated.now.rows c.args.row ≡ Some c.row_at-to.result =
    ap (λ (d : ShellRows). slice_get d.rows c.args.row) (sym c.rows.ensures.rows) ∙ c.row_at-to.ensures in
    to_within c.args.mated.now c.args.starts.now c.args.row c.row_at-to.result c.requires.whole.rows c.requires.starts.span here

pub unwrap-requires : goal.unwrap-requires
unwrap-requires c =
    let here : slice_get c.args.mated.now.rows c.args.row ≡ Some c.row_at-to.result =
    ap (λ (d : ShellRows). slice_get d.rows c.args.row) (sym c.rows.ensures.rows) ∙ c.row_at-to.ensures in
    let within = to_within c.args.mated.now c.args.starts.now c.args.row c.row_at-to.result c.requires.whole.rows c.requires.starts.span here in
    let k = next_some c.args.mated.now c.args.row c.row_at-to.result c.at.result c.requires.whole c.requires.border here
    (border_there c.args.mated.now c.args.starts.now c.row_at-to.result.to.0 c.at.result c.requires.starts within c.at.ensures) in
    rw k.1 (search rules)

pub returns : goal.returns
returns c =
    let here : slice_get c.args.mated.now.rows c.args.row ≡ Some c.row_at-to.result =
    ap (λ (d : ShellRows). slice_get d.rows c.args.row) (sym c.rows.ensures.rows) ∙ c.row_at-to.ensures in
    let within = to_within c.args.mated.now c.args.starts.now c.args.row c.row_at-to.result c.requires.whole.rows c.requires.starts.span here in
    next_is c.args.mated.now c.args.row c.unwrap.result c.row_at-to.result c.at.result c.requires.border here
    (border_there c.args.mated.now c.args.starts.now c.row_at-to.result.to.0 c.at.result c.requires.starts within c.at.ensures) c.unwrap.ensures
