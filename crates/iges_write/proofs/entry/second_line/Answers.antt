use Rattle.std.proofs.Common.{◌≡◌, pos, refl, ap, length, arith}
use Rattle.iges_base.specs.Word.{spaces}
use Rattle.iges_write.specs.Text.{column}
use Rattle.iges_write.proofs.EntryLines.{grown_nine, two_blanks}
use Rattle.iges_write.proofs.entry.second_line.Goals as goal

pub returns-clause-is : goal.returns-clause-is
returns-clause-is c =
    let e = c.args.entry.now in
    let long : length c.put_column-4.new.line ≡ 40 = omega (arith, ap length c.new-line.ensures) in
    grown_nine (column e.kind) (column e.weight) (column e.colour) (column (pos c.args.count)) (column e.form) (spaces 8) (spaces 8) e.label
    (column e.subscript) _ _ _ _ _ _ _ _ _ _
    c.new-line.ensures c.put_column.ensures.is c.put_column-2.ensures.is c.put_column-3.ensures.is c.put_count.ensures.is
    c.put_column-4.ensures.is refl
    (two_blanks c.put_column-4.new.line c.pad.new.self long c.pad.ensures.is) c.put_label.ensures.is c.put_column-5.ensures.is
