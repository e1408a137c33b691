use Rattle.std.proofs.Common.{sym, ◌∙◌, arith}
use Rattle.iges_lines.proofs.RowLists.{rows_cut, rows_whole}
use Rattle.iges_lines.proofs.line_list.LineList.truncate.Goals as goal

pub returns-then-count-self : goal.returns-then-count-self
returns-then-count-self c = rows_cut 80 c.args.count c.self.inside.count c.self.inside.text.items c.truncate.new.self.items _ c.self.view_is
    (omega (arith, c.if-count-self.true)) c.truncate.ensures.items

pub returns-else-count-self : goal.returns-else-count-self
returns-else-count-self c = sym c.self.view_is ∙ rows_whole 80 c.args.count c.self.inside.count c.self.inside.text.items _ c.self.view_is c.if-count-self.false
