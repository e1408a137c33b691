use Rattle.std.proofs.Common.{◌≤◌, length, arith, ap, Some, ◌∙◌}
use Rattle.brep_lists.specs.declared.entity_kind.EntityKind.TheVariants.{EdgeList as edges}
use Rattle.entry_references.proofs.KindPlaces.{no_record, edges_room, edges_own}
use Rattle.entry_references.proofs.own_kinds.of_edge_list.Goals as goal

pub returns-in_default : goal.returns-in_default
returns-in_default c = no_record edges c.args.values.now c.in_default.ensures.none

pub push_groups-requires-clause-few : goal.push_groups-requires-clause-few
push_groups-requires-clause-few c =
    let few : length c.args.values.now ≤ 164000000 = c.requires.few in
    let room = edges_room c.args.values.now c.in-Some.list c.len-count.result c.in-Some.ensures.some few c.len-count.ensures in
    omega (arith, room)

pub overflow_mul-count : goal.overflow_mul-count
overflow_mul-count c =
    let few : length c.args.values.now ≤ 164000000 = c.requires.few in
    let room = edges_room c.args.values.now c.in-Some.list c.len-count.result c.in-Some.ensures.some few c.len-count.ensures in
    omega (arith, room)

pub overflow_add-count : goal.overflow_add-count
overflow_add-count c =
    let few : length c.args.values.now ≤ 164000000 = c.requires.few in
    let room = edges_room c.args.values.now c.in-Some.list c.len-count.result c.in-Some.ensures.some few c.len-count.ensures in
    omega (arith, room)

pub returns : goal.returns
returns c =
    ap (λ o. Some o) c.with_pointers.ensures ∙ edges_own c.args.values.now c.in-Some.list c.len-count.result c.args.spare c.push_groups.new.places
    c.in-Some.ensures.some c.in-Some.ensures.read c.len-count.ensures c.requires.empty c.in_ok-push_groups.ensures
