use Rattle.std.proofs.Common.{sym, subst}
use Rattle.topo_certificate.specs.OpeningFed.{Shows}
use Rattle.topo_certificate.specs.declared.opening.Stage.{Stage}
use Rattle.topo_certificate.proofs.OpeningLines.{end_done, end_failed, end_first, end_second}
use Rattle.topo_certificate.proofs.opening.Opening.finish.Goals as goal

pub returns-in-Done-clause-said : goal.returns-in-Done-clause-said
returns-in-Done-clause-said c =
    rw (sym c.self.view_is) (λ text shows. end_done _ _ c.self.inside.start text (subst (λ (o : Stage). Shows o c.self.inside.start text) c.in-Done.is shows))

pub returns-in-Failed-clause-said : goal.returns-in-Failed-clause-said
returns-in-Failed-clause-said c =
    rw (sym c.self.view_is)
    (λ text shows. end_failed c.in-Failed.bad c.self.inside.start text (subst (λ (o : Stage). Shows o c.self.inside.start text) c.in-Failed.is shows))

pub returns-in-First-clause-said : goal.returns-in-First-clause-said
returns-in-First-clause-said c =
    let said = rw (sym c.self.view_is) at c.end.ensures.said in
    rw (said, sym c.self.view_is)
    (λ text shows. end_first c.self.inside.start text (subst (λ (o : Stage). Shows o c.self.inside.start text) c.in-First.is shows))

pub returns-in-Second-clause-said : goal.returns-in-Second-clause-said
returns-in-Second-clause-said c =
    let said = rw (sym c.self.view_is) at c.end-in-Second.ensures.said in
    rw (said, sym c.self.view_is)
    (λ text shows. end_second _ c.self.inside.start text (subst (λ (o : Stage). Shows o c.self.inside.start text) c.in-Second.is shows))
