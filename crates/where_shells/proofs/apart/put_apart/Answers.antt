use Rattle.std.proofs.Common.{slice_get}
use Rattle.where_shells.proofs.SharedBelow.{shared_below}
use Rattle.where_shells.proofs.apart.put_apart.Goals as goal

pub put_apart_lines-requires-clause-inside : goal.put_apart_lines-requires-clause-inside
put_apart_lines-requires-clause-inside c =
    let v = c.args.view.now in
    shared_below v.solid.now v.at.0 (slice_get v.solid.now.shells v.at.0) c.args.shared.now c.requires.shared
