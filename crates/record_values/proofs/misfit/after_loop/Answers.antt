use Rattle.std.proofs.Common.{◌-◌}
use Rattle.std.proofs.lemmas.Result.{err_from_is_err_and}
use Rattle.brep_lists.specs.declared.entity_kind.EntityKind.TheVariants.{Loop as «loop»}
use Rattle.record_values.specs.declared.due.Counted.TheVariants.{Tuples}
use Rattle.record_values.specs.Expected.{item_layout, layout, times}
use Rattle.record_values.proofs.Going.{gets_stop, gets_more, one_group}
use Rattle.record_values.proofs.misfit.after_loop.Goals as goal

pub returns-in_err-at : goal.returns-in_err-at
returns-in_err-at c =
    let p = err_from_is_err_and c.from_residual-in_err-at.result c.from_residual-in_err-at.ensures.1 in
    rw (p.1, p.2) (gets_stop c.args.values.now 0 c.tuples.at c.in_err-at.field-0.0 (layout «loop») (times c.tuples.left (item_layout Tuples))
    (item_layout Tuples) (times (c.tuples.left - 1) (item_layout Tuples)) c.tuples.invariant
    (one_group c.tuples.left (item_layout Tuples) c.tuples-test.true) c.in_err-at.ensures)

pub tuples-preserved : goal.tuples-preserved
tuples-preserved c = gets_more c.args.values.now 0 c.tuples.at c.in_ok-at.at (layout «loop») (times c.tuples.left (item_layout Tuples)) (item_layout Tuples)
    (times (c.tuples.left - 1) (item_layout Tuples)) c.tuples.invariant (one_group c.tuples.left (item_layout Tuples) c.tuples-test.true) c.in_ok-at.ensures
