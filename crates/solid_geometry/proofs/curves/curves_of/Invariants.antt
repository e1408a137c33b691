use Rattle.std.proofs.Common.{◌≡◌, map, take}
use Rattle.solid_geometry.specs.Curves.{curve_of}
use Rattle.solid_geometry.proofs.curves.curves_of.Given as goal

abbrev pub invariant-edges : goal.invariant-edges
invariant-edges l = l.curves.items ≡ map (curve_of l.file) (take l.i l.solid.edges)
