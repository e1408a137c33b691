use Rattle.iges_lines.proofs.InLines.{columns_in_line}
use Rattle.iges_lines.proofs.line.columns.Goals as goal

pub returns-clause-in_line : goal.returns-clause-in_line
returns-clause-in_line c = columns_in_line c.args.from c.args.to c.args.line.now
