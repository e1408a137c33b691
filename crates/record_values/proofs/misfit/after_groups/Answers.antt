use Rattle.std.proofs.Common.{map, ◌-◌}
use Rattle.std.proofs.lemmas.Result.{err_from_is_err_and}
use Rattle.record_values.specs.Expected.{single, times}
use Rattle.record_values.proofs.Going.{gets_stop, gets_more, one_group}
use Rattle.record_values.proofs.misfit.after_groups.Goals as goal

pub returns-in_err-next : goal.returns-in_err-next
returns-in_err-next c =
    let shape = map single c.args.shape.now in
    let p = err_from_is_err_and c.from_residual.result c.from_residual.ensures.1 in
    rw (p.1, p.2) (gets_stop c.args.values.now c.args.at c.groups.next c.in_err-next.field-0.0 (times c.args.count shape) (times c.groups.left shape) shape
    (times (c.groups.left - 1) shape) c.groups.invariant
    (one_group c.groups.left shape c.groups-test.true) c.in_err-next.ensures)

pub groups-preserved : goal.groups-preserved
groups-preserved c = gets_more c.args.values.now c.args.at c.groups.next c.in_ok-next.next (times c.args.count (map single c.args.shape.now))
    (times c.groups.left (map single c.args.shape.now)) (map single c.args.shape.now) (times (c.groups.left - 1) (map single c.args.shape.now))
    c.groups.invariant (one_group c.groups.left (map single c.args.shape.now) c.groups-test.true) c.in_ok-next.ensures
