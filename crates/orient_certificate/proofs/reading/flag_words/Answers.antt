use Rattle.std.proofs.Common.{rules, refl, ◌≡◌, ◌∷◌, ◌∙◌, map}
use Rattle.edge_uses.proofs.Steps.{none_of}
use Rattle.cert_text.specs.Text.{spaced, AreNumbers}
use Rattle.orient_certificate.specs.Line.{flag_number}
use Rattle.orient_certificate.proofs.Lines.{flags_short, flags_behind, some_flags, numbers_one}
use Rattle.orient_certificate.proofs.reading.flag_words.Goals as goal

pub returns-in_default : goal.returns-in_default
returns-in_default c = λ k flags h. c.in_default.ensures k (map flag_number flags) (spaced (k ∷ map flag_number flags)) h.1
    (record { short = (h.0.0, flags_short flags); text_is = refl })

pub returns-in_default-2 : goal.returns-in_default-2
returns-in_default-2 c = λ k flags h.
    let front = c.in-Some.ensures in
    none_of c.in_ok-numbers.field-0 _ _ c.in_default-2.not-Some c.in_ok-numbers.ensures
    (map flag_number flags, flags_behind c.args.text.now front.0 c.in-Some.rest.now c.in-Some.shell k flags front.1 front.2 h)

pub returns-then-len-eq0 : goal.returns-then-len-eq0
returns-then-len-eq0 c = λ k flags h.
    let front = c.in-Some.ensures in
    let a : AreNumbers c.in-Some.rest.now c.in-Some-2.numbers = search rules in
    some_flags c.args.text.now front.0 c.in-Some.rest.now c.in-Some-2.numbers c.in-Some.shell k c.len.result flags front.1 front.2 a c.len.ensures
    c.if-len-eq0.true h

pub returns-in_default-3 : goal.returns-in_default-3
returns-in_default-3 c = λ k flags h.
    let front = c.in-Some.ensures in
    let a : AreNumbers c.in-Some.rest.now c.in-Some-2.numbers = search rules in
    let items : c.as_slice.result.now ≡ c.in-Some-2.numbers = c.as_slice.ensures in
    none_of c.in_ok-flags.field-0 _ _ c.in_default-3.not-Some c.in_ok-flags.ensures flags
    (items ∙ numbers_one c.in-Some.rest.now c.in-Some-2.numbers (map flag_number flags) a
    (flags_behind c.args.text.now front.0 c.in-Some.rest.now c.in-Some.shell k flags front.1 front.2 h))
