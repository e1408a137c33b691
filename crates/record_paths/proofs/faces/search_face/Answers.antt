use Rattle.std.proofs.Common.{[], pos, flat_map}
use Rattle.std.proofs.lemmas.Int.{to_z-of_z}
use mir.Syntax.{w64}
use Rattle.brep_walk.specs.Places.{loops}
use Rattle.record_paths.specs.Paths.{in_face, sited_after, loops_sited}
use Rattle.record_paths.proofs.PlaceSteps.{face_found, face_lost, face_passed, inside_face}
use Rattle.record_paths.proofs.TupleNames.{not_true}
use Rattle.record_paths.proofs.faces.search_face.Goals as goal

pub returns-then-names_face : goal.returns-then-names_face
returns-then-names_face c known =
    let f = c.args.file.now in
    let z = c.args.number in
    let rest = sited_after (loops_sited f (in_face c.args.path z c.args.item) z (flat_map (loops f) known)) [] (loops f z) in
    face_found f c.args.path (pos c.args.shell.0) c.args.item known z _ (to_z-of_z w64 z c.ranges.number) rest c.args.name
    ((c.names_face.ensures f known).0 c.if-names_face.true)

pub returns-in_default : goal.returns-in_default
returns-in_default c known =
    let f = c.args.file.now in
    let z = c.args.number in
    let rest = sited_after (loops_sited f (in_face c.args.path z c.args.item) z (flat_map (loops f) known)) [] (loops f z) in
    face_lost f c.args.path (pos c.args.shell.0) c.args.item known z _ (to_z-of_z w64 z c.ranges.number) rest c.args.name
    (not_true c.names_face.result (c.names_face.ensures f known) c.if-names_face.false) c.in_default.ensures.none

pub returns : goal.returns
returns c known =
    let f = c.args.file.now in
    let z = c.args.number in
    let is = to_z-of_z w64 z c.ranges.number in
    let used = flat_map (loops f) known in
    let rest = sited_after (loops_sited f (in_face c.args.path z c.args.item) z used) [] (loops f z) in
    face_passed f c.args.path (pos c.args.shell.0) c.args.item known z _ is rest c.args.name c.search_loops.result
    (not_true c.names_face.result (c.names_face.ensures f known) c.if-names_face.false)
    (inside_face f c.args.path c.args.item z _ is c.in-Some.entity.0 c.in-Some.ensures.some.0 c.args.name c.search_loops.result c.in-Some.listed
    c.in-Some.ensures.some.1 used (c.search_loops.ensures used))
