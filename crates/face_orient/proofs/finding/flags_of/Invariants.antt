use Rattle.std.proofs.Common.{◌≡◌, map, take}
use Rattle.face_orient.specs.declared.flag_walk.WalkedFace.{WalkedFace}
use Rattle.face_orient.proofs.finding.flags_of.Given as goal

abbrev pub invariant-places : goal.invariant-places
invariant-places l = l.flags ≡ map (λ (p : WalkedFace). p.flag) (take l.i l.walk.places.items)
