use Rattle.std.proofs.Common.{sym, ◌∙◌}
use Rattle.equal_values.proofs.Pieces.{behind_none, behind_some}
use Rattle.equal_values.proofs.ends.behind_zeros.Goals as goal

pub returns-then-is_empty : goal.returns-then-is_empty
returns-then-is_empty c = behind_none c.args.whole.now c.args.fraction.now c.without_front_zeros-front.result.now c.without_front_zeros.result.now c.without_front_zeros-front.ensures c.without_front_zeros.ensures (sym c.is_empty.ensures ∙ c.if-is_empty.true)

pub returns : goal.returns
returns c = behind_some c.args.whole.now c.args.fraction.now c.without_front_zeros-front.result.now c.without_front_zeros-front.ensures (sym c.is_empty.ensures ∙ c.if-is_empty.false)
