use Rattle.std.proofs.Common.{subst, ◌-◌, true}
use Rattle.open_certificate.specs.Line.{shell}
use Rattle.open_certificate.specs.CheckState.{Takes}
use Rattle.open_certificate.specs.contracts.state.OpenState.{the_view}
use Rattle.open_certificate.proofs.Telling.{with_shell, shell_takes}
use Rattle.open_certificate.proofs.state.OpenState.take_shell.Goals as goal

pub returns-clause-line : goal.returns-clause-line
returns-clause-line c =
    let w = c.args.words.now in
    subst (λ k. Takes k (with_shell (the_view c.self.inside) w.edges w.corners (w.faces - 1) w.borders)
    (shell w.shell w.rows w.edges w.corners w.faces w.borders) true) c.self.view_is
    (shell_takes (the_view c.self.inside) w.shell w.rows w.edges w.corners w.faces w.borders c.self.invariant c.if-self.false c.if-words-self.false
    (c.fits_counts.ensures.0 c.if-not-fits_counts.false))
