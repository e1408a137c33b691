use Rattle.std.proofs.Common.{◌≡◌, ◌+◌, ◌*◌, arith, length}
use Rattle.brep_lists.specs.Record.{tuple_due}
use Rattle.entry_references.proofs.KindPlaces.{tuple_length, tuple_placed}
use Rattle.entry_references.proofs.group_places.push_tuple.Goals as goal

pub push_groups-requires-clause-few : goal.push_groups-requires-clause-few
push_groups-requires-clause-few c = omega (arith, c.requires, tuple_length c.args.tuple.now c.curve_count-curves.result c.curve_count-curves.ensures)

pub overflow_mul-result : goal.overflow_mul-result
overflow_mul-result c = omega (arith, c.requires, tuple_length c.args.tuple.now c.curve_count-curves.result c.curve_count-curves.ensures)

pub overflow_add-result-2 : goal.overflow_add-result-2
overflow_add-result-2 c = omega (arith, c.requires, tuple_length c.args.tuple.now c.curve_count-curves.result c.curve_count-curves.ensures)

pub returns-clause-places : goal.returns-clause-places
returns-clause-places c =
    tuple_placed c.args.places.now c.push.new.self c.push_groups.new.places c.args.first c.curve_count-curves.result c.args.tuple.now
    c.curve_count-curves.ensures c.in_ok-push.ensures.ok c.in_ok-push_groups.ensures

pub returns-clause-end : goal.returns-clause-end
returns-clause-end c =
    let size : length (tuple_due c.args.tuple.now) ≡ 5 + c.curve_count-curves.result * 2 =
    tuple_length c.args.tuple.now c.curve_count-curves.result c.curve_count-curves.ensures in
    omega (arith, size)
