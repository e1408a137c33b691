use Rattle.std.proofs.Common.{◌≡◌, ◌++◌, drop, filter_map}
use Rattle.change_fits.specs.NewNames.{new_edge_of}
use Rattle.change_fits.proofs.new_names.edges_named.Given as goal

abbrev pub invariant-uses : goal.invariant-uses
invariant-uses l = l.out.items ++ filter_map new_edge_of (drop l.i l.uses) ≡ filter_map new_edge_of l.uses
