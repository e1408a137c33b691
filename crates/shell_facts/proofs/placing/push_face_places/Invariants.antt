use Rattle.std.proofs.Common.{◌≡◌, ◌++◌, flat_map}
use Rattle.solid_data.specs.SolidData.{same_flag}
use Rattle.edge_uses.proofs.Joins.{loops_left}
use Rattle.shell_facts.specs.RowPlaces.{loop_places, face_places}
use Rattle.shell_facts.proofs.placing.push_face_places.Given as goal

abbrev pub invariant-loops : goal.invariant-loops
invariant-loops l =
    l.out.items ++ flat_map (loop_places l.solid l.face) (loops_left l.at (same_flag l.face.flag l.shell_flag) l.loops l.i)
    ≡ l.fn.out.items ++ face_places l.solid l.shell_flag (l.at, l.face)
