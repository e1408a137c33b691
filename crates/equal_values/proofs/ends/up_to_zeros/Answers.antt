use Rattle.std.proofs.Common.{sym, ◌∙◌}
use Rattle.equal_values.proofs.Pieces.{up_to_none, up_to_some}
use Rattle.equal_values.proofs.ends.up_to_zeros.Goals as goal

pub returns-then-is_empty : goal.returns-then-is_empty
returns-then-is_empty c = up_to_none c.args.front.now c.args.back.now c.without_end_zeros.result.now c.without_end_zeros-end.result.now c.without_end_zeros.ensures c.without_end_zeros-end.ensures (sym c.is_empty.ensures ∙ c.if-is_empty.true)

pub returns : goal.returns
returns c = up_to_some c.args.front.now c.args.back.now c.without_end_zeros-end.result.now c.without_end_zeros-end.ensures (sym c.is_empty.ensures ∙ c.if-is_empty.false)
