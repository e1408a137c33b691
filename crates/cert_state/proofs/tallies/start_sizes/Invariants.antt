use Rattle.std.proofs.Common.{◌≡◌, ◌++◌, map, drop}
use Rattle.edge_uses.specs.declared.row.Row.{Row}
use Rattle.cert_state.specs.CheckState.{corner_size}
use Rattle.cert_state.proofs.tallies.start_sizes.Given as goal

abbrev pub invariant-rows : goal.invariant-rows
invariant-rows l = l.sizes.items ++ map (λ (r : Row). corner_size l.rows r.from.0) (drop l.i l.rows.rows) ≡ map (λ (r : Row). corner_size l.rows r.from.0)
    l.rows.rows
