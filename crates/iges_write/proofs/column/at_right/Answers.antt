use Rattle.iges_write.proofs.LineTexts.{right_put}
use Rattle.iges_write.proofs.column.at_right.Goals as goal

pub returns : goal.returns
returns c = right_put c.args.text.now c.copy_from_slice.new.self c.if-text-ge8.false c.copy_from_slice.ensures.after
