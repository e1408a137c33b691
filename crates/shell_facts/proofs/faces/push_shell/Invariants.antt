use Rattle.std.proofs.Common.{◌≡◌, ◌++◌, drop, flat_map}
use Rattle.shell_facts.specs.FaceTable.{face_touches, shell_touches}
use Rattle.shell_facts.proofs.faces.push_shell.Given as goal

abbrev pub invariant-faces : goal.invariant-faces
invariant-faces l = l.out.items ++ flat_map (face_touches l.solid l.number) (drop l.i l.faces) ≡ l.fn.out.items ++ shell_touches l.solid (l.number, l.shell)
