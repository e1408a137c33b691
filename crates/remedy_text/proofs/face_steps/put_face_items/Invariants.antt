use Rattle.std.proofs.Common.{◌≡◌, ◌++◌, drop, flat_map}
use Rattle.remedy_text.specs.Lines.{face_item}
use Rattle.remedy_text.proofs.face_steps.put_face_items.Given as goal

abbrev pub invariant-faces : goal.invariant-faces
invariant-faces l = record {
  text : l.out ++ flat_map (face_item l.word l.view.file.now) (drop l.i l.faces) ≡ l.fn.out ++ flat_map (face_item l.word l.view.file.now) l.faces;
  named : l.named ++ drop l.i l.faces ≡ l.fn.named ++ l.faces;
}
