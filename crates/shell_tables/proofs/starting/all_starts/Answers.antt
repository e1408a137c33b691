use Rattle.std.proofs.Common.{arith}
use Rattle.shell_tables.specs.Starting.{no_starts}
use Rattle.shell_tables.proofs.StartCells.{on_vertices, rows_first, rows_noted, start_few, start_known, start_noted, start_within}
use Rattle.shell_tables.proofs.starting.all_starts.Goals as goal

pub rows-init : goal.rows-init
rows-init c =
    rows_first c.args.rows.now c.in_ok-starts.starts
    (on_vertices c.args.rows.now no_starts c.in_ok-starts.starts c.vertex_slice.result.now c.vertex_slice.ensures.kept c.vertex_slice.ensures.items
    c.in_ok-starts.ensures.numbers c.in_ok-starts.ensures.span c.in_ok-starts.ensures.blank c.in_ok-starts.ensures.cells) c.in_ok-starts.ensures.cells

pub note_start-requires-clause-known : goal.note_start-requires-clause-known
note_start-requires-clause-known c = start_known c.args.rows.now c.rows.i c.rows.starts c.row_at.result c.rows.invariant c.row_at.ensures

pub note_start-requires-clause-within : goal.note_start-requires-clause-within
note_start-requires-clause-within c = start_within c.args.rows.now c.rows.i c.rows.starts c.row_at.result c.rows.invariant c.row_at.ensures

pub note_start-requires-clause-few : goal.note_start-requires-clause-few
note_start-requires-clause-few c = start_few c.args.rows.now c.rows.i c.rows.starts c.row_at.result c.rows.invariant c.row_at.ensures

pub rows-preserved : goal.rows-preserved
rows-preserved c = start_noted c.args.rows.now c.rows.i c.rows.starts c.row_at.result c.rows.invariant c.row_at.ensures c.note_start.new.starts
    c.note_start.ensures

pub returns : goal.returns
returns c = rows_noted c.args.rows.now c.rows.i c.rows.starts (omega (arith, c.len-i-end.ensures.count, c.rows-test.false)) c.rows.invariant
