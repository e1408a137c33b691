use Rattle.iges_lines.proofs.RowLists.{rows-none}
use Rattle.iges_lines.proofs.line_list.LineList.clear.Goals as goal

pub returns : goal.returns
returns c = rows-none 80 _
