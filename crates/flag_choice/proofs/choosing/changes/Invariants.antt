use Rattle.std.proofs.Common.{◌≡◌, ◌+◌, ◌≤◌, map, drop}
use Rattle.solid_data.specs.declared.solid.FaceUse.{FaceUse}
use Rattle.flag_choice.specs.Choice.{changes}
use Rattle.flag_choice.proofs.choosing.changes.Given as goal

abbrev pub invariant-faces : goal.invariant-faces
invariant-faces l = record {
  few : l.count ≤ l.i;
  so_far : l.count + changes (drop l.i (map (λ (f : FaceUse). f.flag) l.faces)) (drop l.i l.flags) ≡ changes (map (λ (f : FaceUse). f.flag) l.faces) l.flags;
}
