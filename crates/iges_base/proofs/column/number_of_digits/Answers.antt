use Rattle.std.proofs.Common.{sym, ◌∙◌, ap, ◌+◌, ◌*◌, ℕ}
use Rattle.iges_base.proofs.Columns.{digit_more}
use Rattle.iges_base.proofs.column.number_of_digits.Goals as goal

pub bytes-preserved : goal.bytes-preserved
bytes-preserved c =
    digit_more c.args.text.now c.bytes.at c.bytes.number c.bytes.invariant c.requires c.bytes-test.true
    (sym c.is_ascii_digit.ensures.value ∙ c.if-not-is_ascii_digit.false) _ (ap (λ (d : ℕ). c.bytes.number * 10 + d) c.from.ensures)
