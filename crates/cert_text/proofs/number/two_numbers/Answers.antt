use Rattle.std.proofs.Common.{rules, [], ◌∷◌}
use Rattle.cert_text.proofs.Digits.{begins_tail, numbers_begin}
use Rattle.cert_text.proofs.number.two_numbers.Goals as goal

pub returns-in_default : goal.returns-in_default
returns-in_default c = λ a b h. c.in_default.ensures a _ (numbers_begin c.args.text.now (b ∷ []) a h)

pub returns-in_default-one_number : goal.returns-in_default-one_number
returns-in_default-one_number c = λ a b h. c.in_default-one_number.ensures b
    (begins_tail c.args.text.now c.in-Some.rest.now (b ∷ []) c.in-Some.a a (search rules) h).1
