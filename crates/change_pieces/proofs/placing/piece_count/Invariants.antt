use Rattle.std.proofs.Common.{◌≡◌, drop, map, max}
use Rattle.edge_uses.specs.Before.{above_of}
use Rattle.change_pieces.specs.Pieces.{kept_faces, piece_of}
use Rattle.change_pieces.proofs.placing.piece_count.Given as goal

abbrev pub invariant-faces : goal.invariant-faces
invariant-faces l = max l.above (above_of (map piece_of (kept_faces (drop l.i l.fates)))) ≡ above_of (map piece_of (kept_faces l.fates))
