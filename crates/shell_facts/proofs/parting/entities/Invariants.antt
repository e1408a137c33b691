use Rattle.std.proofs.Common.{◌≡◌, ◌++◌, drop, map}
use Rattle.solid_data.specs.declared.solid.FaceUse.{FaceUse}
use Rattle.shell_facts.specs.PartTables.{faces_numbered}
use Rattle.shell_facts.proofs.parting.entities.Given as goal

abbrev pub invariant-faces : goal.invariant-faces
invariant-faces l = l.out.items ++ map (λ (f : FaceUse). f.entity) (faces_numbered l.shell (drop l.i l.faces))
    ≡ map (λ (f : FaceUse). f.entity) (faces_numbered l.shell l.faces)
