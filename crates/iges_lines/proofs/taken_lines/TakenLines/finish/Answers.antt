use Rattle.std.proofs.Common.{sym}
use Rattle.std.proofs.lemmas.Bool.{not-true}
use Rattle.iges_lines.proofs.Going.{end_fault, end_missing, end_all, true_from}
use Rattle.iges_lines.proofs.taken_lines.TakenLines.finish.Goals as goal

pub returns-in-Some : goal.returns-in-Some
returns-in-Some c = rw (sym c.self.view_is) (λ bytes h. end_fault bytes _ h c.in-Some.fault c.in-Some.is)

pub returns-then-not-self : goal.returns-then-not-self
returns-then-not-self c = rw (sym c.self.view_is) (λ bytes h. end_missing bytes _ h c.in_default.is (not-true c.self.inside.terminated c.if-not-self.true))

pub returns : goal.returns
returns c = rw (sym c.self.view_is) (λ bytes h. end_all bytes _ h c.in_default.is (true_from c.self.inside.terminated c.if-not-self.false))
