use Rattle.std.proofs.Common.{arith, ap, length}
use Rattle.std.specs.Prelude.{map}
use Rattle.edge_uses.specs.ShellRows.{ShellRows}
use Rattle.shell_reach.specs.Reaching.{row_numbers}
use Rattle.open_shells.proofs.BorderLoops.{bordering_done}
use Rattle.open_shells.proofs.bordering.cycles_of.Goals as goal

pub returns : goal.returns
returns c =
    bordering_done c.args.mated.now c.rows.r c.rows.seen.items (map row_numbers c.rows.cycles)
    (omega (arith, c.rows-test.false, c.rows.auto.r-end, c.len-r-end.ensures.count, ap (λ (d : ShellRows). length d.rows) c.rows-rows.ensures.rows))
    c.rows.invariant
