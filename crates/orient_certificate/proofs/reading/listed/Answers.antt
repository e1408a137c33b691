use Rattle.orient_certificate.proofs.Lines.{listed_told}
use Rattle.orient_certificate.proofs.reading.listed.Goals as goal

pub returns : goal.returns
returns c = listed_told c.args.text.now c.args.letter.now c.in-Some.rest.now c.next_number.result (λ p. p.0) (λ p. p.1.now) c.in-Some.ensures
    c.next_number.ensures
