use Rattle.iges_lines.proofs.RowLists.{rows-count}
use Rattle.iges_lines.proofs.line_list.LineList.count.Goals as goal

pub returns-clause-count : goal.returns-clause-count
returns-clause-count c = rows-count 80 c.self.inside.count c.self.inside.text.items _ c.self.view_is
