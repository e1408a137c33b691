use Rattle.std.proofs.Common.{◌<◌, ℕ, ℤ, Bool, get_or}
use Rattle.brep_walk.specs.Places.{NamesGeometry}
use Rattle.brep_walk.proofs.tuples.curves_name_geometry.Given as goal

abbrev pub invariant-curves : goal.invariant-curves
invariant-curves l = (k : ℕ) (d : Bool × ℤ) → k < l.i → NamesGeometry l.file (get_or l.tuple.curves k d).1
