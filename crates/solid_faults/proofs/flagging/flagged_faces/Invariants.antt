use Rattle.std.proofs.Common.{◌≡◌, ◌++◌, drop, map}
use Rattle.solid_faults.specs.FaceFlags.{flagged_face}
use Rattle.solid_faults.proofs.flagging.flagged_faces.Given as goal

abbrev pub invariant-faces : goal.invariant-faces
invariant-faces l = l.copy ++ map flagged_face (drop l.i l.faces) ≡ map flagged_face l.faces
