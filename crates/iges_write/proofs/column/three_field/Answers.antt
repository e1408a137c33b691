use Rattle.std.proofs.Common.{ap, refl, sym}
use Rattle.iges_write.specs.Text.{right}
use Rattle.iges_write.proofs.ShortNumbers.{three_digits}
use Rattle.iges_write.proofs.column.three_field.Goals as goal

pub returns : goal.returns
returns c = ap (right 8) (sym (three_digits c.args.n _ _ _ c.requires.digits.0 c.requires.digits.1 refl refl refl))
