use Rattle.std.proofs.Common.{◌≡◌, drop, flat_map, max}
use Rattle.edge_uses.specs.Before.{above_of, face_vertices}
use Rattle.edge_uses.proofs.apart.above_shell.Given as goal

abbrev pub invariant-faces : goal.invariant-faces
invariant-faces l = max l.above (above_of (flat_map (face_vertices l.solid) (drop l.i l.faces)))
    ≡ max l.from (above_of (flat_map (face_vertices l.solid) l.shell.faces))
