use Rattle.std.proofs.Common.{◌≡◌, map, take}
use Rattle.solid_data.specs.SolidData.{same_flag}
use Rattle.solid_data.specs.declared.solid.FaceUse.{FaceUse}
use Rattle.orient_certificate.proofs.crossing.forwards_of.Given as goal

abbrev pub invariant-faces : goal.invariant-faces
invariant-faces l = l.forwards.items ≡ map (λ (f : FaceUse). same_flag f.flag l.shell.flag) (take l.i l.faces)
