use Rattle.std.proofs.Common.{refl, sym, ◌∙◌}
use Rattle.iges_base.proofs.Mantissas.{digit_more, point_more}
use Rattle.iges_base.proofs.mantissa.mantissa_of.Goals.{then-is_ascii_digit, else-is_ascii_digit+then-byte-eq46}
use Rattle.iges_base.proofs.mantissa.mantissa_of.Goals as goal

pub bytes-preserved : goal.bytes-preserved
bytes-preserved c =
    elim c.if-is_ascii_digit.branch [
      | then-is_ascii_digit w ↦
          rw (w.points-is, w.value-is) (digit_more _ _ _ _ c.bytes.invariant c.bytes-test.true
          (sym c.is_ascii_digit.ensures.value ∙ w.if-is_ascii_digit.true) _ _ refl w.with_digit-value.ensures)
      | else-is_ascii_digit+then-byte-eq46 w ↦
          rw (w.points-is, w.value-is) (point_more _ _ _ _ c.bytes.invariant c.bytes-test.true w.if-byte-eq46.true)
    ]
