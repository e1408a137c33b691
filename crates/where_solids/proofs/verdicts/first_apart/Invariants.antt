use Rattle.std.proofs.Common.{◌≡◌, drop}
use Rattle.solid_faults.specs.Parts.{failing_faces}
use Rattle.where_solids.proofs.verdicts.first_apart.Given as goal

abbrev pub invariant-faces : goal.invariant-faces
invariant-faces l = failing_faces (drop l.i l.faces) (drop l.i l.firsts) ≡ failing_faces l.faces l.firsts
