use Rattle.std.proofs.Common.{pos}
use Rattle.iges_write.specs.Text.{column}
use Rattle.iges_write.proofs.EntryLines.{grown_nine}
use Rattle.iges_write.proofs.entry.first_line.Goals as goal

pub returns-clause-is : goal.returns-clause-is
returns-clause-is c =
    let e = c.args.entry.now in
    grown_nine (column e.kind) (column (pos c.args.first)) (column e.structure) (column e.font) (column e.level) (column e.view) (column e.matrix)
    (column e.display) e.status _ _ _ _ _ _ _ _ _ _
    c.new-line.ensures c.put_column.ensures.is c.put_count.ensures.is c.put_column-2.ensures.is c.put_column-3.ensures.is
    c.put_column-4.ensures.is c.put_column-5.ensures.is c.put_column-6.ensures.is c.put_column-7.ensures.is c.put_label.ensures.is
