use Rattle.std.proofs.Common.{◌≡◌, ◌++◌, drop, flat_map}
use Rattle.changed_records.specs.Lists.{new_edge_values}
use Rattle.changed_records.proofs.list_values.push_edges.Given as goal

abbrev pub invariant-edges : goal.invariant-edges
invariant-edges l = l.list ++ flat_map (new_edge_values l.file l.solid l.lists) (drop l.i l.edges)
    ≡ l.fn.list ++ flat_map (new_edge_values l.file l.solid l.lists) l.edges
