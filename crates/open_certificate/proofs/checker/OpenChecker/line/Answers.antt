use Rattle.open_certificate.proofs.checker.OpenChecker.line.Goals as goal

pub returns-then-take-clause-line : goal.returns-then-take-clause-line
returns-then-take-clause-line c = λ lines at.
    let x = c.in-Some-read_line.ensures in
    let t = c.if-take.ensures.line x.0 x.1 x.2.0 lines at in
    (x.0, x.2, t.0, t.1)
