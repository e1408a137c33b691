use Rattle.std.proofs.Common.{◌≤◌, length, arith}
use Rattle.brep_loops.proofs.Curves.{no_count}
use Rattle.brep_loops.proofs.ends.after_curves.Goals as goal

pub returns-then-count_place-len : goal.returns-then-count_place-len
returns-then-count_place-len c =
    let past : length c.args.values.now ≤ c.args.count_place = omega arith in
    no_count c.args.values.now c.args.count_place c.args.curves past c.requires
