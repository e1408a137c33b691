use Rattle.std.proofs.Common.{◌≤◌, length, arith, ap, Some, ◌∙◌}
use Rattle.brep_lists.specs.declared.entity_kind.EntityKind.TheVariants.{Shell as shell}
use Rattle.entry_references.proofs.KindPlaces.{no_record, shell_room, shell_own}
use Rattle.entry_references.proofs.own_kinds.of_shell.Goals as goal

pub returns-in_default : goal.returns-in_default
returns-in_default c = no_record shell c.args.values.now c.in_default.ensures.none

pub push_groups-requires-clause-few : goal.push_groups-requires-clause-few
push_groups-requires-clause-few c =
    let few : length c.args.values.now ≤ 164000000 = c.requires.few in
    let room = shell_room c.args.values.now c.in-Some.record c.len-faces.result c.in-Some.ensures.some few c.len-faces.ensures in
    omega (arith, room)

pub overflow_mul-faces : goal.overflow_mul-faces
overflow_mul-faces c =
    let few : length c.args.values.now ≤ 164000000 = c.requires.few in
    let room = shell_room c.args.values.now c.in-Some.record c.len-faces.result c.in-Some.ensures.some few c.len-faces.ensures in
    omega (arith, room)

pub overflow_add-faces : goal.overflow_add-faces
overflow_add-faces c =
    let few : length c.args.values.now ≤ 164000000 = c.requires.few in
    let room = shell_room c.args.values.now c.in-Some.record c.len-faces.result c.in-Some.ensures.some few c.len-faces.ensures in
    omega (arith, room)

pub returns : goal.returns
returns c =
    ap (λ o. Some o) c.with_pointers.ensures ∙ shell_own c.args.values.now c.in-Some.record c.len-faces.result c.args.spare c.push_groups.new.places
    c.in-Some.ensures.some c.in-Some.ensures.read c.len-faces.ensures c.requires.empty c.in_ok-push_groups.ensures
