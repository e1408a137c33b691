use Rattle.std.proofs.Common.{◌≡◌, ◌++◌, drop, flat_map}
use Rattle.change_pieces.specs.Filled.{face_uses}
use Rattle.change_pieces.proofs.uses.push_shell.Given as goal

abbrev pub invariant-faces : goal.invariant-faces
invariant-faces l = l.out.items ++ flat_map face_uses (drop l.i l.faces) ≡ l.fn.out.items ++ flat_map face_uses l.faces
