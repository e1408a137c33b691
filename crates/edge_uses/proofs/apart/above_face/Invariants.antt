use Rattle.std.proofs.Common.{◌≡◌, drop, flat_map, max}
use Rattle.edge_uses.specs.Before.{above_of, loop_vertices}
use Rattle.edge_uses.proofs.apart.above_face.Given as goal

abbrev pub invariant-loops : goal.invariant-loops
invariant-loops l = max l.above (above_of (flat_map (loop_vertices l.solid) (drop l.i l.loops)))
    ≡ max l.from (above_of (flat_map (loop_vertices l.solid) l.face.loops))
