use Rattle.std.proofs.Common.{◌≤◌, length, arith, ap, Some, ◌∙◌}
use Rattle.brep_lists.specs.declared.entity_kind.EntityKind.TheVariants.{Solid as solid}
use Rattle.entry_references.proofs.KindPlaces.{no_record, solid_room, solid_own}
use Rattle.entry_references.proofs.own_kinds.of_solid.Goals as goal

pub returns-in_default : goal.returns-in_default
returns-in_default c = no_record solid c.args.values.now c.in_default.ensures.none

pub overflow_sub-voids : goal.overflow_sub-voids
overflow_sub-voids c =
    let few : length c.args.values.now ≤ 164000000 = c.requires.few in
    let room = solid_room c.args.values.now c.in-Some.record c.len-voids.result c.in-Some.ensures.some few c.len-voids.ensures in
    omega (arith, room.0, room.1)

pub push_groups-requires-clause-few : goal.push_groups-requires-clause-few
push_groups-requires-clause-few c =
    let few : length c.args.values.now ≤ 164000000 = c.requires.few in
    let room = solid_room c.args.values.now c.in-Some.record c.len-voids.result c.in-Some.ensures.some few c.len-voids.ensures in
    omega (arith, room.0, room.1)

pub overflow_mul-voids : goal.overflow_mul-voids
overflow_mul-voids c =
    let few : length c.args.values.now ≤ 164000000 = c.requires.few in
    let room = solid_room c.args.values.now c.in-Some.record c.len-voids.result c.in-Some.ensures.some few c.len-voids.ensures in
    omega (arith, room.0, room.1)

pub overflow_add-voids : goal.overflow_add-voids
overflow_add-voids c =
    let few : length c.args.values.now ≤ 164000000 = c.requires.few in
    let room = solid_room c.args.values.now c.in-Some.record c.len-voids.result c.in-Some.ensures.some few c.len-voids.ensures in
    omega (arith, room.0, room.1)

pub returns : goal.returns
returns c =
    ap (λ o. Some o) c.with_pointers.ensures ∙ solid_own c.args.values.now c.in-Some.record c.len-voids.result c.in_ok-pointers.pointers
    c.push_groups.new.places c.in-Some.ensures.some c.in-Some.ensures.read c.len-voids.ensures c.in_ok-pointers.ensures c.in_ok-push_groups.ensures
