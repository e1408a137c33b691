-- Private: whether a step leads from the flag of its face to that of the other face.
use Rattle.std.specs.Prelude.{◌≡◌, List}
use Rattle.orient_certificate.specs.declared.crossing.Crossing.{Crossing}
use Rattle.face_orient.specs.declared.flag_walk.WalkedFace.{WalkedFace}
use Rattle.orient_certificate.specs.Crossings.{flipped}
use Rattle.face_orient.specs.FlagWalk.{walked_of}

abbrev pub IsSteady : List WalkedFace → Crossing → Type 0
IsSteady places c = (walked_of places c.to).flag ≡ flipped c.flips (walked_of places c.from).flag
