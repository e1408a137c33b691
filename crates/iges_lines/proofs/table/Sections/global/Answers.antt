use Rattle.iges_lines.proofs.Kept.{global_in_line}
use Rattle.iges_lines.proofs.table.Sections.global.Goals as goal

pub returns-clause-in_line : goal.returns-clause-in_line
returns-clause-in_line c = global_in_line c.self.inside.table c.self.invariant c.global.result c.args.i c.global.ensures.line
