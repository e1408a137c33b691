use Rattle.std.proofs.Common.{◌≡◌, ◌++◌, drop, flat_map}
use Rattle.change_pieces.specs.Filled.{loop_uses}
use Rattle.change_pieces.proofs.uses.push_face.Given as goal

abbrev pub invariant-loops : goal.invariant-loops
invariant-loops l = l.out.items ++ flat_map loop_uses (drop l.i l.loops) ≡ l.fn.out.items ++ flat_map loop_uses l.loops
