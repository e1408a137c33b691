use Rattle.std.proofs.Common.{◌<◌, ◌^◌, false, true, rules}
use Rattle.brep_loops.proofs.Curves.{bad_count, with_curves, ends}
use Rattle.brep_loops.proofs.ends.checked_ends.Goals as goal

pub returns-in_default-optional_count : goal.returns-in_default-optional_count
returns-in_default-optional_count c = bad_count c.args.values.now c.args.at c.in-Some.count_place c.in-Some.ensures.0 c.in-Some.ensures.1
    c.in_default-optional_count.ensures

pub returns-in_default-after_curves : goal.returns-in_default-after_curves
returns-in_default-after_curves c =
    with_curves c.args.values.now c.args.at c.in-Some.count_place c.in-Some-optional_count.curves false c.in-Some.ensures.0 c.in-Some.ensures.1
    c.in-Some-optional_count.ensures.0 c.in-Some-optional_count.ensures.1 c.in_default-after_curves.ensures

pub returns : goal.returns
returns c =
    let small : c.in-Some.count_place < 2 ^ 64 = search rules in (
      with_curves c.args.values.now c.args.at c.in-Some.count_place c.in-Some-optional_count.curves true c.in-Some.ensures.0 c.in-Some.ensures.1
          c.in-Some-optional_count.ensures.0 c.in-Some-optional_count.ensures.1 c.in-Some-after_curves.ensures.0,
      ends c.args.values.now c.args.at c.in-Some.count_place c.in-Some-optional_count.curves c.in-Some-after_curves.end c.in-Some.ensures.1
          c.in-Some-optional_count.ensures.1 c.in-Some-after_curves.ensures.1 small c.in-Some-after_curves.ensures.2,
    )
