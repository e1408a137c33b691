use Rattle.std.proofs.Common.{◌≡◌, drop, flat_map, max}
use Rattle.solid_data.specs.SolidData.{vertices_used}
use Rattle.edge_uses.specs.Before.{above_of}
use Rattle.edge_uses.proofs.apart.above_loop.Given as goal

abbrev pub invariant-uses : goal.invariant-uses
invariant-uses l = max l.above (above_of (flat_map (vertices_used l.solid) (drop l.i l.uses)))
    ≡ max l.from (above_of (flat_map (vertices_used l.solid) l.walk.uses))
