use Rattle.std.proofs.Common.{rules, ◌≡◌, List, ℕ, ◌-◌, ◌+◌, ◌++◌, length, ap, subst, ◌∙◌}
use Rattle.std.specs.Prelude.{OnOk}
use Rattle.equal_values.specs.Canonical.{number_text}
use Rattle.equal_values.proofs.Parts.{HasParts, far_text, fits, goes, parts_text}
use Rattle.equal_values.proofs.canonical.put_word.Goals as goal

pub returns-then-saturating_add-ge-FAR : goal.returns-then-saturating_add-ge-FAR
returns-then-saturating_add-ge-FAR c =
    let has : HasParts c.args.word.now c.parts_of.result.0.now c.parts_of.result.1.now c.parts_of.result.2.now c.power_of-power.result c.saturating_add.result =
    record {
      whole_is = c.parts_of.ensures.whole;
      fraction_is = c.parts_of.ensures.fraction;
      exponent_is = c.parts_of.ensures.exponent;
      power_is = c.power_of-power.ensures;
      sum_is = c.saturating_add.ensures;
    } in
    subst (λ (t : List ℕ). OnOk c.put_behind.result (c.put_behind.new.text.items ≡ c.args.text.now.items ++ t))
    (far_text _ _ _ _ _ _ has c.if-saturating_add-ge-FAR.true) c.put_behind.ensures

pub overflow_add-scale-2 : goal.overflow_add-scale-2
overflow_add-scale-2 c =
    let has : HasParts c.args.word.now c.parts_of.result.0.now c.parts_of.result.1.now c.parts_of.result.2.now c.power_of-power.result c.saturating_add.result =
    record {
      whole_is = c.parts_of.ensures.whole;
      fraction_is = c.parts_of.ensures.fraction;
      exponent_is = c.parts_of.ensures.exponent;
      power_is = c.power_of-power.ensures;
      sum_is = c.saturating_add.ensures;
    } in
    let small = fits _ _ _ _ _ _ has c.if-saturating_add-ge-FAR.false c.raised_power-raised.result c.raised_power-raised.ensures
    c.behind_zeros.result.0.now c.behind_zeros.result.1.now c.behind_zeros.ensures in
    search (rules, small)

pub overflow_sub-scale : goal.overflow_sub-scale
overflow_sub-scale c =
    let has : HasParts c.args.word.now c.parts_of.result.0.now c.parts_of.result.1.now c.parts_of.result.2.now c.power_of-power.result c.saturating_add.result =
    record {
      whole_is = c.parts_of.ensures.whole;
      fraction_is = c.parts_of.ensures.fraction;
      exponent_is = c.parts_of.ensures.exponent;
      power_is = c.power_of-power.ensures;
      sum_is = c.saturating_add.ensures;
    } in
    goes _ _ _ _ _ _ has c.if-saturating_add-ge-FAR.false c.raised_power-raised.result c.raised_power-raised.ensures
    c.behind_zeros.result.0.now c.behind_zeros.result.1.now c.behind_zeros.ensures

pub returns : goal.returns
returns c =
    let has : HasParts c.args.word.now c.parts_of.result.0.now c.parts_of.result.1.now c.parts_of.result.2.now c.power_of-power.result c.saturating_add.result =
    record {
      whole_is = c.parts_of.ensures.whole;
      fraction_is = c.parts_of.ensures.fraction;
      exponent_is = c.parts_of.ensures.exponent;
      power_is = c.power_of-power.ensures;
      sum_is = c.saturating_add.ensures;
    } in
    let text = parts_text _ _ _ _ _ _ has c.if-saturating_add-ge-FAR.false c.raised_power-raised.result c.raised_power-raised.ensures
    c.behind_zeros.result.0.now c.behind_zeros.result.1.now c.behind_zeros.ensures c.up_to_zeros.result.0.now c.up_to_zeros.result.1.now c.up_to_zeros.ensures in
    let signed = ap (λ b. number_text b (c.up_to_zeros.result.0.now ++ c.up_to_zeros.result.1.now)
    (c.raised_power-raised.result + (length c.behind_zeros.result.0.now + length c.behind_zeros.result.1.now) - length c.parts_of.result.1.now)) c.is_negative.ensures in
    subst (λ (t : List ℕ). OnOk c.put_digits.result (c.put_digits.new.text.items ≡ c.args.text.now.items ++ t)) (signed ∙ text) c.put_digits.ensures
