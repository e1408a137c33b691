use Rattle.std.proofs.Common.{◌≡◌, ◌+◌, ◌*◌, arith, length}
use Rattle.brep_lists.specs.Record.{tuple_due}
use Rattle.entry_references.proofs.KindPlaces.{tuple_length}
use Rattle.list_compact.proofs.values.push_tuple.Goals as goal

pub overflow_mul-curves : goal.overflow_mul-curves
overflow_mul-curves c = omega (arith, c.requires, tuple_length c.args.tuple.now c.curve_count-curves.result c.curve_count-curves.ensures)

pub overflow_add-curves : goal.overflow_add-curves
overflow_add-curves c = omega (arith, c.requires, tuple_length c.args.tuple.now c.curve_count-curves.result c.curve_count-curves.ensures)

pub overflow_mul-result : goal.overflow_mul-result
overflow_mul-result c = omega (arith, c.requires, tuple_length c.args.tuple.now c.curve_count-curves.result c.curve_count-curves.ensures)

pub overflow_add-result-2 : goal.overflow_add-result-2
overflow_add-result-2 c = omega (arith, c.requires, tuple_length c.args.tuple.now c.curve_count-curves.result c.curve_count-curves.ensures)

pub returns-clause-end : goal.returns-clause-end
returns-clause-end c =
    let size : length (tuple_due c.args.tuple.now) ≡ 5 + c.curve_count-curves.result * 2 =
    tuple_length c.args.tuple.now c.curve_count-curves.result c.curve_count-curves.ensures in
    omega (arith, size)
