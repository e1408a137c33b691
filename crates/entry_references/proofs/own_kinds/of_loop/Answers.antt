use Rattle.std.proofs.Common.{◌≤◌, length, arith, ap, Some, ◌∙◌}
use Rattle.brep_lists.specs.declared.entity_kind.EntityKind.TheVariants.{Loop as «loop»}
use Rattle.entry_references.proofs.KindPlaces.{no_record, loop_room, loop_own}
use Rattle.entry_references.proofs.own_kinds.of_loop.Goals as goal

pub returns-in_default : goal.returns-in_default
returns-in_default c = no_record «loop» c.args.values.now c.in_default.ensures.none

pub push_tuples-requires : goal.push_tuples-requires
push_tuples-requires c =
    let few : length c.args.values.now ≤ 164000000 = c.requires.few in
    omega (arith, loop_room c.args.values.now c.in-Some.record c.in-Some.ensures.some few)

pub returns : goal.returns
returns c =
    ap (λ o. Some o) c.with_pointers.ensures
    ∙ loop_own c.args.values.now c.in-Some.record c.in_ok-end.end c.args.spare c.push_tuples.new.places c.in-Some.ensures.some c.in-Some.ensures.read
    c.in_ok-end.ensures.end c.requires.empty c.in_ok-end.ensures.places
