use Rattle.std.proofs.Common.{sym, ◌∙◌}
use Rattle.brep_loops.proofs.Curves.{one_tuple}
use Rattle.brep_loops.proofs.loop_record.tuple_count.Goals as goal

pub tuples-preserved : goal.tuples-preserved
tuples-preserved c =
    sym (one_tuple c.args.values.now c.tuples.left c.tuples.at c.in-Some-checked_ends.ends.end c.in-Some-checked_ends.ends.curves c.tuples-test.true
    c.in-Some-checked_ends.ensures.0 c.in-Some-checked_ends.ensures.1)
    ∙ c.tuples.invariant
