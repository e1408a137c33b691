use Rattle.std.proofs.Common.{arith}
use Rattle.edge_uses.specs.declared.row.Row.{Row}
use Rattle.cert_state.proofs.VertexTallies.{from_of, on_vertices, counts_none, counts_few, counts_step, row_known, row_within, starts_counted}
use Rattle.cert_state.proofs.tallies.starts_of.Goals as goal

pub rows-init : goal.rows-init
rows-init c =
    counts_none Row from_of c.args.rows.now.rows c.args.rows.now c.in_ok-starts.starts
    (on_vertices c.args.rows.now c.in_ok-starts.starts c.vertex_slice.result.now c.vertex_slice.ensures.kept c.vertex_slice.ensures.items
    c.in_ok-starts.ensures.numbers c.in_ok-starts.ensures.span c.in_ok-starts.ensures.blank c.in_ok-starts.ensures.cells) c.in_ok-starts.ensures.cells

pub add_one-requires-clause-known : goal.add_one-requires-clause-known
add_one-requires-clause-known c = row_known c.args.rows.now c.rows.i c.row_at.result c.rows.starts c.rows.invariant.on c.row_at.ensures

pub add_one-requires-clause-within : goal.add_one-requires-clause-within
add_one-requires-clause-within c = row_within c.args.rows.now c.rows.starts.span c.rows.i c.row_at.result c.rows.invariant.on.rows c.rows.invariant.on.span
    c.row_at.ensures

pub add_one-requires-clause-few : goal.add_one-requires-clause-few
add_one-requires-clause-few c =
    counts_few Row from_of c.args.rows.now.rows c.rows.i c.row_at.result c.args.rows.now c.rows.starts 536870912
    (row_within c.args.rows.now c.rows.starts.span c.rows.i c.row_at.result c.rows.invariant.on.rows c.rows.invariant.on.span c.row_at.ensures)
    c.rows.invariant c.rows.invariant.on.rows.few

pub rows-preserved : goal.rows-preserved
rows-preserved c =
    counts_step Row from_of c.args.rows.now.rows c.rows.i c.row_at.result c.args.rows.now c.rows.starts c.add_one.new.counts c.row_at.ensures
    (row_within c.args.rows.now c.rows.starts.span c.rows.i c.row_at.result c.rows.invariant.on.rows c.rows.invariant.on.span c.row_at.ensures)
    c.add_one.ensures c.rows.invariant

pub returns : goal.returns
returns c = starts_counted c.args.rows.now c.rows.i c.rows.starts (omega (arith, c.len-i-end.ensures.count, c.rows-test.false)) c.rows.invariant
