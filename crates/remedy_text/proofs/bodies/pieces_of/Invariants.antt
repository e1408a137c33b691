use Rattle.std.proofs.Common.{◌≡◌, ◌++◌, drop, map}
use Rattle.remedy_text.specs.Bodies.{piece_of}
use Rattle.remedy_text.proofs.bodies.pieces_of.Given as goal

abbrev pub invariant-faces : goal.invariant-faces
invariant-faces l = l.pieces.items ++ map piece_of (drop l.i l.kept) ≡ map piece_of l.kept
