use Rattle.std.proofs.Common.{◌≡◌, ◌++◌, map, take}
use Rattle.igesolid_c.proofs.words.add_all.Given as goal

abbrev pub invariant-adds : goal.invariant-adds
invariant-adds l = l.words ≡ l.fn.words ++ map (λ x. x.now) (take l.piece-index l.pieces)
