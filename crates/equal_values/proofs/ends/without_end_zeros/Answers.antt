use Rattle.std.proofs.Common.{sym, ◌∙◌, arith}
use Rattle.equal_values.proofs.Pieces.{before_zeros-zero}
use Rattle.equal_values.proofs.ends.without_end_zeros.Goals as goal

pub zeros-preserved : goal.zeros-preserved
zeros-preserved c = record {
  within = omega arith;
  rest = sym (before_zeros-zero c.args.text.now c.zeros.end (omega arith) c.zeros.invariant.within c.if-text-end-eq48.true) ∙
      c.zeros.invariant.rest;
}
