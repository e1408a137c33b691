use Rattle.iges_base.proofs.Mantissas.{valid_if}
use Rattle.iges_base.proofs.mantissa.Mantissa.is_valid.Goals as goal

pub returns-then-self-le1 : goal.returns-then-self-le1
returns-then-self-le1 c = λ text is. valid_if text c.args.self.now is c.if-self-le1.true
