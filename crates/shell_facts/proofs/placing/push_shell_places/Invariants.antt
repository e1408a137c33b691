use Rattle.std.proofs.Common.{◌≡◌, ◌++◌}
use Rattle.shell_facts.specs.RowPlaces.{face_places, row_places_of}
use Rattle.solid_faults.proofs.GapSteps.{found_left}
use Rattle.shell_facts.proofs.placing.push_shell_places.Given as goal

abbrev pub invariant-faces : goal.invariant-faces
invariant-faces l = l.out.items ++ found_left (face_places l.solid l.shell.flag) l.faces l.i ≡ l.fn.out.items ++ row_places_of l.solid l.shell
