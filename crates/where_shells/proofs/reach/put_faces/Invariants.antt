use Rattle.std.proofs.Common.{◌≡◌, ◌++◌, drop, flat_map}
use Rattle.where_shells.specs.Lines.{face_line}
use Rattle.where_shells.proofs.reach.put_faces.Given as goal

abbrev pub invariant-faces : goal.invariant-faces
invariant-faces l = record {
  text : l.page.out ++ flat_map (face_line l.view.file.now) (drop l.i l.faces) ≡ l.fn.page.out ++ flat_map (face_line l.view.file.now) l.faces;
  named : l.page.named ++ drop l.i l.faces ≡ l.fn.page.named ++ l.faces;
}
