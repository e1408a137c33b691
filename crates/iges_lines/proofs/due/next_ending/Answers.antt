use Rattle.std.proofs.Common.{rules, arith}
use Rattle.iges_lines.proofs.Foretelling.{next_of_last}
use Rattle.iges_lines.proofs.due.next_ending.Goals as goal

pub returns-then-last-lt57 : goal.returns-then-last-lt57
returns-then-last-lt57 c = rw c.with_last_more.ensures (next_of_last c.args.ending (search rules) (omega (arith, c.if-last-ge48.true))
    (omega (arith, c.if-last-lt57.true)))
