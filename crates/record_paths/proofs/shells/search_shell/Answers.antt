use Rattle.std.proofs.Common.{[], pos, flat_map}
use Rattle.std.proofs.lemmas.Int.{to_z-of_z}
use mir.Syntax.{w64}
use Rattle.brep_lists.specs.declared.entity_kind.EntityKind.TheVariants.{Shell as shell}
use Rattle.brep_walk.specs.Places.{faces, numbers}
use Rattle.record_paths.specs.Paths.{in_shell, sited_after, faces_sited}
use Rattle.record_paths.proofs.PlaceSteps.{place_found, place_lost, place_passed, inside_shell}
use Rattle.record_paths.proofs.TupleNames.{not_true}
use Rattle.record_paths.proofs.shells.search_shell.Goals as goal

pub returns-then-names_place : goal.returns-then-names_place
returns-then-names_place c known =
    let f = c.args.file.now in
    let z = c.args.number in
    let rest = sited_after (faces_sited f (in_shell c.args.path z c.args.item) z (flat_map (λ b. numbers (faces f b)) known)) [] (faces f z) in
    place_found f c.args.path (pos c.args.solid.0) c.args.item shell known z _ (to_z-of_z w64 z c.ranges.number) rest c.args.name
    ((c.names_place.ensures f shell known).0 c.if-names_place.true)

pub returns-in_default : goal.returns-in_default
returns-in_default c known =
    let f = c.args.file.now in
    let z = c.args.number in
    let rest = sited_after (faces_sited f (in_shell c.args.path z c.args.item) z (flat_map (λ b. numbers (faces f b)) known)) [] (faces f z) in
    place_lost f c.args.path (pos c.args.solid.0) c.args.item shell known z _ (to_z-of_z w64 z c.ranges.number) rest c.args.name
    (not_true c.names_place.result (c.names_place.ensures f shell known) c.if-names_place.false) c.in_default.ensures.none

pub returns : goal.returns
returns c known =
    let f = c.args.file.now in
    let z = c.args.number in
    let is = to_z-of_z w64 z c.ranges.number in
    let used = flat_map (λ b. numbers (faces f b)) known in
    let rest = sited_after (faces_sited f (in_shell c.args.path z c.args.item) z used) [] (faces f z) in
    place_passed f c.args.path (pos c.args.solid.0) c.args.item shell known z _ is rest c.args.name c.search_faces.result
    (not_true c.names_place.result (c.names_place.ensures f shell known) c.if-names_place.false)
    (inside_shell f c.args.path c.args.item z _ is c.in-Some.entity.0 c.in-Some.ensures.some.0 c.args.name c.search_faces.result c.in-Some.listed
    c.in-Some.ensures.some.1 used (c.search_faces.ensures used))
