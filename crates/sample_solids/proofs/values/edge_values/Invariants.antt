use Rattle.std.proofs.Common.{◌≡◌, ◌∷◌, map, flat_map, take, ◌*◌}
use Rattle.sample_solids.specs.Sample.{squares, whole, edges_listed}
use Rattle.sample_solids.proofs.values.edge_values.Given as goal

abbrev pub invariant-squares : goal.invariant-squares
invariant-squares l = l.values ≡ map whole (2 * l.n * l.n ∷ flat_map (edges_listed l.n) (take l.k (squares l.n)))
