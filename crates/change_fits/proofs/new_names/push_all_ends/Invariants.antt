use Rattle.std.proofs.Common.{◌≡◌, ◌++◌, drop, flat_map}
use Rattle.change_fits.specs.NewNames.{new_ends}
use Rattle.change_fits.proofs.new_names.push_all_ends.Given as goal

abbrev pub invariant-edges : goal.invariant-edges
invariant-edges l = l.out.items ++ flat_map new_ends (drop l.i l.edges) ≡ l.fn.out.items ++ flat_map new_ends l.edges
