use Rattle.iges_lines.proofs.Kept.{directory_in_line}
use Rattle.iges_lines.proofs.table.Sections.directory.Goals as goal

pub returns-clause-in_line : goal.returns-clause-in_line
returns-clause-in_line c = directory_in_line c.self.inside.table c.self.invariant c.directory.result c.args.i c.directory.ensures.line
