use Rattle.std.proofs.Common.{◌≤◌, length, arith, ap, Some, ◌∙◌}
use Rattle.brep_lists.specs.declared.entity_kind.EntityKind.TheVariants.{Face as face}
use Rattle.entry_references.proofs.KindPlaces.{no_record, face_room, face_own}
use Rattle.entry_references.proofs.own_kinds.of_face.Goals as goal

pub returns-in_default : goal.returns-in_default
returns-in_default c = no_record face c.args.values.now c.in_default.ensures.none

pub push_groups-requires-clause-few : goal.push_groups-requires-clause-few
push_groups-requires-clause-few c =
    let few : length c.args.values.now ≤ 164000000 = c.requires.few in
    let room = face_room c.args.values.now c.in-Some.record c.len-loops.result c.in-Some.ensures.some few c.len-loops.ensures in
    omega (arith, room)

pub overflow_add-loops : goal.overflow_add-loops
overflow_add-loops c =
    let few : length c.args.values.now ≤ 164000000 = c.requires.few in
    let room = face_room c.args.values.now c.in-Some.record c.len-loops.result c.in-Some.ensures.some few c.len-loops.ensures in
    omega (arith, room)

pub returns : goal.returns
returns c =
    ap (λ o. Some o) c.with_pointers.ensures ∙ face_own c.args.values.now c.in-Some.record c.len-loops.result c.in_ok-pointers.pointers
    c.push_groups.new.places c.in-Some.ensures.some c.in-Some.ensures.read c.len-loops.ensures c.in_ok-pointers.ensures c.in_ok-push_groups.ensures
