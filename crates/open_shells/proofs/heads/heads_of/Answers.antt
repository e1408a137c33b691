use Rattle.std.proofs.Common.{arith, sym, ap, ◌∙◌, ◌≡◌, length}
use Rattle.std.specs.Prelude.{None, Some, slice_get}
use Rattle.edge_uses.specs.ShellRows.{ShellRows}
use Rattle.open_shells.proofs.OnceMates.{border_or_mate}
use Rattle.shell_tables.proofs.StartCells.{on_vertices}
use Rattle.open_shells.proofs.HeadCells.{heads_first, head_known, heads_more, heads_all}
use Rattle.open_shells.proofs.heads.heads_of.Goals as goal

pub rows-init : goal.rows-init
rows-init c =
    heads_first c.args.mated.now c.in_ok-heads.heads
    (on_vertices c.args.mated.now None c.in_ok-heads.heads c.vertex_slice.result.now c.requires.rows
    (c.vertex_slice.ensures.items ∙ ap (λ (d : ShellRows). d.vertices) c.rows-rows.ensures.rows) c.in_ok-heads.ensures.numbers c.in_ok-heads.ensures.span
    c.in_ok-heads.ensures.blank c.in_ok-heads.ensures.cells) c.in_ok-heads.ensures.cells

pub note-requires : goal.note-requires
note-requires c =
    let at : slice_get c.args.mated.now.rows c.rows.i ≡ Some c.row_at.result = ap (λ (d : ShellRows). slice_get d.rows c.rows.i) (sym c.rows-rows.ensures.rows)
    ∙ c.row_at.ensures in
    head_known c.args.mated.now c.rows.i c.rows.heads c.row_at.result c.rows.invariant at

pub rows-preserved : goal.rows-preserved
rows-preserved c =
    let at : slice_get c.args.mated.now.rows c.rows.i ≡ Some c.row_at.result = ap (λ (d : ShellRows). slice_get d.rows c.rows.i) (sym c.rows-rows.ensures.rows)
    ∙ c.row_at.ensures in
    heads_more c.args.mated.now c.rows.i c.rows.heads c.note.new.heads c.row_at.result c.head_after.result _ c.rows.invariant at c.head_after.ensures.none
    c.head_after.ensures.some c.note.ensures

pub returns : goal.returns
returns c = heads_all c.args.mated.now c.rows.i c.rows.heads c.requires
    (omega (arith, c.rows-test.false, c.rows.auto.i-end, c.len-i-end.ensures.count, ap (λ (d : ShellRows). length d.rows) c.rows-rows.ensures.rows))
    c.rows.invariant (border_or_mate c.args.mated.now c.requires)
