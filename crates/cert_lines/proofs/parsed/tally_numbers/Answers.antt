use Rattle.std.proofs.Common.{rules, [], ◌∷◌}
use Rattle.cert_text.proofs.Digits.{begins_tail, numbers_begin}
use Rattle.cert_lines.proofs.parsed.tally_numbers.Goals as goal

pub returns-in_default : goal.returns-in_default
returns-in_default c = λ a b k d h. c.in_default.ensures a _ (numbers_begin c.args.text.now (b ∷ k ∷ d ∷ []) a h)

pub returns-in_default-next_number : goal.returns-in_default-next_number
returns-in_default-next_number c = λ a b k d h.
    let one = (begins_tail c.args.text.now c.in-Some.rest.now (b ∷ k ∷ d ∷ []) c.in-Some.vertices a (search rules) h).1 in
    c.in_default-next_number.ensures b _ (numbers_begin c.in-Some.rest.now (k ∷ d ∷ []) b one)

pub returns-in_default-two_numbers : goal.returns-in_default-two_numbers
returns-in_default-two_numbers c = λ a b k d h.
    let one = (begins_tail c.args.text.now c.in-Some.rest.now (b ∷ k ∷ d ∷ []) c.in-Some.vertices a (search rules) h).1 in
    let two = (begins_tail c.in-Some.rest.now c.in-Some-next_number.rest.now (k ∷ d ∷ []) c.in-Some-next_number.edges b (search rules) one).1 in
    c.in_default-two_numbers.ensures k d two
