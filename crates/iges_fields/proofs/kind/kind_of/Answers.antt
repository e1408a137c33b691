use Rattle.iges_fields.proofs.WordKinds.{no_exponent_behind, no_mantissa, with_exponent}
use Rattle.iges_fields.proofs.kind.kind_of.Goals.{else-is_valid-via-then-is_valid+else-is_exponent, else-is_valid-via-else-is_valid}
use Rattle.iges_fields.proofs.kind.kind_of.Goals as goal

pub returns-then-is_exponent : goal.returns-then-is_exponent
returns-then-is_exponent c =
    with_exponent c.args.word.now _ c.unsigned-unsigned.ensures _ c.mantissa_of-mantissa.ensures _ c.split_at.ensures.back c.in-len1-up.len_at_least
    _ _ c.if-is_valid.true c.is_valid.ensures c.if-is_exponent.true c.is_exponent.ensures

pub returns-else-is_valid : goal.returns-else-is_valid
returns-else-is_valid c =
    elim c.else-is_valid.branch [
      | else-is_valid-via-then-is_valid+else-is_exponent w ↦
          no_exponent_behind c.args.word.now _ c.unsigned-unsigned.ensures _ c.mantissa_of-mantissa.ensures _ c.split_at.ensures.back c.in-len1-up.len_at_least
          _ w.if-is_exponent.false w.is_exponent.ensures
      | else-is_valid-via-else-is_valid w ↦
          no_mantissa c.args.word.now _ c.unsigned-unsigned.ensures _ c.mantissa_of-mantissa.ensures _ c.split_at.ensures.back c.in-len1-up.len_at_least
          _ w.if-is_valid.false c.is_valid.ensures
    ]
