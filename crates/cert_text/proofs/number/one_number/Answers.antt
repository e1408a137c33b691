use Rattle.std.proofs.Common.{rules, []}
use Rattle.cert_text.proofs.Digits.{begins_tail, numbers_begin}
use Rattle.cert_text.proofs.number.one_number.Goals as goal

pub returns-in_default : goal.returns-in_default
returns-in_default c = λ a h. c.in_default.ensures a [] (numbers_begin c.args.text.now [] a h)

pub returns-else-is_empty : goal.returns-else-is_empty
returns-else-is_empty c = λ a h.
    let tail = (begins_tail c.args.text.now c.in-Some.rest.now [] c.in-Some.a a (search rules) h).1.text_is in
    search (rules, tail)
