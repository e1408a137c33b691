use Rattle.std.proofs.Common.{sym, subst, List, ℕ, ◌++◌}
use Rattle.topo_certificate.specs.OpeningFed.{IsOpening}
use Rattle.topo_certificate.proofs.OpeningLines.{few_kept, line_front, shows_more}
use Rattle.topo_certificate.proofs.opening.Opening.take_line.Goals as goal

pub invariant_of-self : goal.invariant_of-self
invariant_of-self c = few_kept c.keep.new.self _ c.keep.ensures

pub returns-in-Some-clause-line : goal.returns-in-Some-clause-line
returns-in-Some-clause-line c = λ text shows.
    let ends = c.in-Some.ensures {u = tt} in
    subst (λ (l : List ℕ). IsOpening c.end_line.new.self (text ++ l)) (sym (line_front c.args.piece.now c.in-Some.line.now _ ends))
    (c.end_line.ensures text ends.front ends.in_line ends.line_is shows)

pub returns-in-None-clause-line : goal.returns-in-None-clause-line
returns-in-None-clause-line c =
    let waiting = rw (sym c.self.view_is) at c.requires in
    rw (sym c.self.view_is)
    (λ text shows. shows_more c.self.inside.stage c.self.inside.start text c.args.piece.now c.keep.new.self waiting (c.in-None.ensures {u = tt})
    c.keep.ensures shows)
