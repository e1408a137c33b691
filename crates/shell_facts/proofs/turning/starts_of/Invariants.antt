use Rattle.std.proofs.Common.{◌≡◌, ◌++◌, drop, map}
use Rattle.edge_uses.specs.declared.row.Row.{Row}
use Rattle.shell_facts.proofs.turning.starts_of.Given as goal

abbrev pub invariant-rows : goal.invariant-rows
invariant-rows l = l.starts.items ++ map (λ (r : Row). r.from.0) (drop l.i l.rows.rows) ≡ map (λ (r : Row). r.from.0) l.rows.rows
