use Rattle.iges_lines.proofs.Kept.{start_in_line}
use Rattle.iges_lines.proofs.table.Sections.start.Goals as goal

pub returns-clause-in_line : goal.returns-clause-in_line
returns-clause-in_line c = start_in_line c.self.inside.table c.self.invariant c.start.result c.args.i c.start.ensures.line
