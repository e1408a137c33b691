use Rattle.std.proofs.Common.{arith, sym, ap, ◌∙◌, ◌≡◌, length}
use Rattle.std.specs.Prelude.{None, Some, slice_get}
use Rattle.edge_uses.specs.ShellRows.{ShellRows}
use Rattle.shell_tables.proofs.StartCells.{on_vertices}
use Rattle.open_shells.proofs.HeadCells.{borders_first, border_known, borders_more, borders_all}
use Rattle.open_shells.proofs.bordering.border_starts.Goals as goal

pub rows-init : goal.rows-init
rows-init c =
    borders_first c.args.mated.now c.in_ok-starts.starts
    (on_vertices c.args.mated.now None c.in_ok-starts.starts c.vertex_slice.result.now c.requires.rows
    (c.vertex_slice.ensures.items ∙ ap (λ (d : ShellRows). d.vertices) c.rows-rows.ensures.rows) c.in_ok-starts.ensures.numbers c.in_ok-starts.ensures.span
    c.in_ok-starts.ensures.blank c.in_ok-starts.ensures.cells) c.in_ok-starts.ensures.cells

pub note-requires : goal.note-requires
note-requires c =
    let at : slice_get c.args.mated.now.rows c.rows.i ≡ Some c.row_at.result = ap (λ (d : ShellRows). slice_get d.rows c.rows.i) (sym c.rows-rows.ensures.rows)
    ∙ c.row_at.ensures in
    border_known c.args.mated.now c.rows.i c.rows.starts c.row_at.result c.rows.invariant at

pub rows-preserved : goal.rows-preserved
rows-preserved c =
    let at : slice_get c.args.mated.now.rows c.rows.i ≡ Some c.row_at.result = ap (λ (d : ShellRows). slice_get d.rows c.rows.i) (sym c.rows-rows.ensures.rows)
    ∙ c.row_at.ensures in
    borders_more c.args.mated.now c.rows.i c.rows.starts c.note.new.heads c.row_at.result c.border_at.result _ c.rows.invariant at c.border_at.ensures.none
    c.border_at.ensures.some c.note.ensures

pub returns : goal.returns
returns c = borders_all c.args.mated.now c.rows.i c.rows.starts
    (omega (arith, c.rows-test.false, c.rows.auto.i-end, c.len-i-end.ensures.count, ap (λ (d : ShellRows). length d.rows) c.rows-rows.ensures.rows))
    c.rows.invariant
