use Rattle.std.proofs.Common.{arith}
use Rattle.iges_write.proofs.Endings.{next_is}
use Rattle.iges_write.proofs.column.next_field.Goals as goal

pub returns : goal.returns
returns c = next_is c.args.field c.args.first c.args.n c.requires.small c.requires.is (omega (arith, c.if-field-ge57.false))
