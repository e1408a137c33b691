use Rattle.std.proofs.Common.{◌≡◌, ◌∷◌, map, flat_map, take, ◌*◌}
use Rattle.sample_solids.specs.Sample.{squares, whole, vertex_listed}
use Rattle.sample_solids.proofs.values.vertex_values.Given as goal

abbrev pub invariant-squares : goal.invariant-squares
invariant-squares l = l.values ≡ map whole (l.n * l.n ∷ flat_map (vertex_listed) (take l.k (squares l.n)))
