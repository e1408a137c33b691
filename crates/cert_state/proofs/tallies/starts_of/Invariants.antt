use Rattle.edge_uses.specs.declared.row.Row.{Row}
use Rattle.cert_state.proofs.VertexTallies.{CountsBefore, from_of}
use Rattle.cert_state.proofs.tallies.starts_of.Given as goal

abbrev pub invariant-rows : goal.invariant-rows
invariant-rows l = CountsBefore Row from_of l.fn.rows.rows l.i l.fn.rows l.starts
