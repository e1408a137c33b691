use Rattle.std.proofs.Common.{◌≡◌, drop}
use Rattle.solid_faults.specs.Parts.{apart_from, faces_apart}
use Rattle.solid_faults.proofs.failing.no_other_part.Given as goal

abbrev pub invariant-faces : goal.invariant-faces
invariant-faces l = apart_from l.i (drop l.i l.firsts) ≡ faces_apart l.firsts
