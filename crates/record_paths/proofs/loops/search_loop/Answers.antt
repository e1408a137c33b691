use Rattle.std.proofs.Common.{[], pos}
use Rattle.std.proofs.lemmas.Int.{to_z-of_z}
use mir.Syntax.{w64}
use Rattle.brep_lists.specs.declared.entity_kind.EntityKind.TheVariants.{Loop as «loop»}
use Rattle.brep_walk.specs.Places.{tuples}
use Rattle.record_paths.specs.Paths.{in_loop, sited_after, tuples_sited}
use Rattle.record_paths.proofs.PlaceSteps.{place_found, place_lost, place_passed, inside_loop}
use Rattle.record_paths.proofs.TupleNames.{not_true}
use Rattle.record_paths.proofs.loops.search_loop.Goals as goal

pub returns-then-names_place : goal.returns-then-names_place
returns-then-names_place c known =
    let f = c.args.file.now in
    let z = c.args.number in
    let rest = sited_after (tuples_sited f (in_loop c.args.path z c.args.item) z) [] (tuples f z) in
    place_found f c.args.path (pos c.args.face.0) c.args.item «loop» known z _ (to_z-of_z w64 z c.ranges.number) rest c.args.name
    ((c.names_place.ensures f «loop» known).0 c.if-names_place.true)

pub returns-in_default : goal.returns-in_default
returns-in_default c known =
    let f = c.args.file.now in
    let z = c.args.number in
    let rest = sited_after (tuples_sited f (in_loop c.args.path z c.args.item) z) [] (tuples f z) in
    place_lost f c.args.path (pos c.args.face.0) c.args.item «loop» known z _ (to_z-of_z w64 z c.ranges.number) rest c.args.name
    (not_true c.names_place.result (c.names_place.ensures f «loop» known) c.if-names_place.false) c.in_default.ensures.none

pub returns : goal.returns
returns c known =
    let f = c.args.file.now in
    let z = c.args.number in
    let is = to_z-of_z w64 z c.ranges.number in
    let rest = sited_after (tuples_sited f (in_loop c.args.path z c.args.item) z) [] (tuples f z) in
    place_passed f c.args.path (pos c.args.face.0) c.args.item «loop» known z _ is rest c.args.name c.search_tuples.result
    (not_true c.names_place.result (c.names_place.ensures f «loop» known) c.if-names_place.false)
    (inside_loop f c.args.path c.args.item z _ is c.in-Some.entity.0 c.in-Some.ensures.some.0 c.args.name c.search_tuples.result c.in-Some.listed
    c.in-Some.ensures.some.1 c.search_tuples.ensures)
