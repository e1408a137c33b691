use Rattle.std.proofs.Common.{rules, true, false, ◌≡◌}
use Rattle.cert_text.proofs.Digits.{none_spaced, begins_more}
use Rattle.cert_text.proofs.number.are_numbers.Goals as goal

pub returns-in_default : goal.returns-in_default
returns-in_default c = (
  λ t. (let f : false ≡ true = t in cc),
  λ spaced. absurd (none_spaced c.numbers.rest.now (search rules) c.in_default.ensures (c.numbers.invariant.1 spaced)),
)

pub numbers-preserved : goal.numbers-preserved
numbers-preserved c =
    let step = begins_more c.numbers.rest.now c.in-Some.after.now c.in-Some.field-0-0 (search rules) in
    let kept = c.numbers.invariant in
    (λ h. kept.0 (step.0 h), λ h. step.1 (kept.1 h))
