use Rattle.std.proofs.Common.{◌≡◌, ◌++◌, drop, filter_map}
use Rattle.change_fits.specs.NewNames.{new_vertex_of}
use Rattle.change_fits.proofs.new_names.vertices_of_uses.Given as goal

abbrev pub invariant-uses : goal.invariant-uses
invariant-uses l = l.out.items ++ filter_map new_vertex_of (drop l.i l.uses) ≡ filter_map new_vertex_of l.uses
