use Rattle.std.proofs.Common.{rules, arith}
use Rattle.iges_lines.proofs.Foretelling.{next_of_ten}
use Rattle.iges_lines.proofs.due.next_ten.Goals as goal

pub returns : goal.returns
returns c = next_of_ten c.args.ending (search rules) c.requires (omega (arith, c.if-ten-lt48.false)) (omega (arith, c.if-ten-gt56.false))
