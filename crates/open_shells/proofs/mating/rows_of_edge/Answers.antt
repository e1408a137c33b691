use Rattle.std.proofs.Common.{arith, true, false}
use Rattle.open_shells.proofs.OnceMates.{only_against, only_along}
use Rattle.open_shells.proofs.mating.rows_of_edge.Goals as goal

pub returns-then-seen-eq0 : goal.returns-then-seen-eq0
returns-then-seen-eq0 c = λ d e s once. let k = only_against d e c.args.seen s once (omega (arith, c.if-seen-eq0.true)) in (false, k.0, k.1)

pub returns-then-seen-eq0-2 : goal.returns-then-seen-eq0-2
returns-then-seen-eq0-2 c = λ d e s once. let k = only_along d e c.args.seen s once (omega (arith, c.if-seen-eq0-2.true)) in (true, k.0, k.1)
