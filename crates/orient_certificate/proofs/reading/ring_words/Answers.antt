use Rattle.std.proofs.Common.{rules, refl, ◌∷◌}
use Rattle.edge_uses.proofs.Steps.{none_of}
use Rattle.cert_text.specs.Text.{spaced, AreNumbers}
use Rattle.orient_certificate.proofs.Lines.{rings_behind, some_rows}
use Rattle.orient_certificate.proofs.reading.ring_words.Goals as goal

pub returns-in_default : goal.returns-in_default
returns-in_default c = λ k rows h. c.in_default.ensures k rows (spaced (k ∷ rows)) h.1 (record { short = h.0.0; text_is = refl })

pub returns-in_default-2 : goal.returns-in_default-2
returns-in_default-2 c = λ k rows h.
    let front = c.in-Some.ensures in
    none_of c.in_ok-rows.field-0 _ _ c.in_default-2.not-Some c.in_ok-rows.ensures
    (rows, rings_behind c.args.text.now front.0 c.in-Some.rest.now c.in-Some.shell k rows front.1 front.2 h)

pub returns-then-len-eq0 : goal.returns-then-len-eq0
returns-then-len-eq0 c = λ k rows h.
    let front = c.in-Some.ensures in
    let a : AreNumbers c.in-Some.rest.now c.in-Some-2.rows = search rules in
    some_rows c.args.text.now front.0 c.in-Some.rest.now c.in-Some-2.rows c.in-Some.shell k c.len.result rows front.1 front.2 a c.len.ensures c.if-len-eq0.true
    h
