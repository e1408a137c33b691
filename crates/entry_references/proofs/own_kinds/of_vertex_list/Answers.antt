use Rattle.std.proofs.Common.{◌≤◌, length, arith, ap, Some, ◌∙◌}
use Rattle.brep_lists.specs.declared.entity_kind.EntityKind.TheVariants.{VertexList as vertices}
use Rattle.entry_references.proofs.KindPlaces.{no_record, vertices_room, vertices_own}
use Rattle.entry_references.proofs.own_kinds.of_vertex_list.Goals as goal

pub returns-in_default : goal.returns-in_default
returns-in_default c = no_record vertices c.args.values.now c.in_default.ensures.none

pub overflow_mul-len : goal.overflow_mul-len
overflow_mul-len c =
    let few : length c.args.values.now ≤ 164000000 = c.requires.few in
    let room = vertices_room c.args.values.now c.in-Some.list c.len.result c.in-Some.ensures.some few c.len.ensures in
    omega (arith, room)

pub overflow_add-len : goal.overflow_add-len
overflow_add-len c =
    let few : length c.args.values.now ≤ 164000000 = c.requires.few in
    let room = vertices_room c.args.values.now c.in-Some.list c.len.result c.in-Some.ensures.some few c.len.ensures in
    omega (arith, room)

pub returns : goal.returns
returns c =
    ap (λ o. Some o) c.plain.ensures ∙ vertices_own c.args.values.now c.in-Some.list c.len.result c.in-Some.ensures.some c.in-Some.ensures.read c.len.ensures
