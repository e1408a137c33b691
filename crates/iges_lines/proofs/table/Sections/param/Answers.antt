use Rattle.iges_lines.proofs.Kept.{param_in_line}
use Rattle.iges_lines.proofs.table.Sections.param.Goals as goal

pub returns-clause-in_line : goal.returns-clause-in_line
returns-clause-in_line c = param_in_line c.self.inside.table c.self.invariant c.param.result c.args.i c.param.ensures.line
