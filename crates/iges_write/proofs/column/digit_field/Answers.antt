use Rattle.std.proofs.Common.{ap, sym}
use Rattle.std.proofs.lemmas.Fmt.{decimal_digit}
use Rattle.iges_write.specs.Text.{right}
use Rattle.iges_write.proofs.column.digit_field.Goals as goal

pub returns : goal.returns
returns c = ap (right 8) (sym (decimal_digit c.args.n c.requires))
