use Rattle.std.proofs.Common.{rules, sym, subst, ◌∙◌, ◌≡◌, ◌∷◌, true, false}
use Rattle.std.proofs.lemmas.List.{take_rest}
use Rattle.cert_text.specs.Text.{Stops, Begins}
use Rattle.cert_text.proofs.Digits.{number_stops, number_plain, number_begins}
use Rattle.cert_text.proofs.number.next_number.Goals as goal

pub returns-then-not-stops : goal.returns-then-not-stops
returns-then-not-stops c = λ n rest begins.
    let cut : c.args.text.now ≡ 32 ∷ c.in-Some.after.now = search rules in
    let end = c.leading_digits-number.result.1 in
    let led = c.leading_digits-number.ensures in
    let stops = number_stops c.args.text.now c.in-Some.after.now end cut led.within led.digits rest n led.ends begins in
    let e : false ≡ true = sym c.if-not-stops.true ∙ c.stops.ensures.1 (subst Stops (sym (take_rest c.in-Some.after.now end)) stops) in
    cc

pub returns-then-not-is_plain : goal.returns-then-not-is_plain
returns-then-not-is_plain c = λ n rest begins.
    let cut : c.args.text.now ≡ 32 ∷ c.in-Some.after.now = search rules in
    let end = c.leading_digits-number.result.1 in
    let led = c.leading_digits-number.ensures in
    let stops = subst Stops (take_rest c.in-Some.after.now end) (c.stops.ensures.0 c.if-not-stops.false) in
    let e : false ≡ true = sym c.if-not-is_plain.true ∙ c.is_plain.ensures.1
    (number_plain c.args.text.now c.in-Some.after.now end cut led.within led.digits rest n stops begins) in
    cc

pub returns : goal.returns
returns c =
    let cut : c.args.text.now ≡ 32 ∷ c.in-Some.after.now = search rules in
    let end = c.leading_digits-number.result.1 in
    let led = c.leading_digits-number.ensures in
    let rest = take_rest c.in-Some.after.now end in
    subst (Begins c.args.text.now c.leading_digits-number.result.0) (sym rest)
    (number_begins c.args.text.now c.in-Some.after.now end cut led.within led.digits c.leading_digits-number.result.0 led.few led.value
    (subst Stops rest (c.stops.ensures.0 c.if-not-stops.false)) (c.is_plain.ensures.0 c.if-not-is_plain.false))
