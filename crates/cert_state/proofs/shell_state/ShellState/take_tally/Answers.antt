use Rattle.std.proofs.Common.{subst, true}
use Rattle.cert_lines.specs.Line.{tally}
use Rattle.cert_state.specs.Matching.{Takes}
use Rattle.cert_state.specs.contracts.shell_state.ShellState.{the_view}
use Rattle.cert_state.proofs.Telling.{with_tally, tally_takes}
use Rattle.cert_state.proofs.shell_state.ShellState.take_tally.Goals as goal

pub returns-clause-line : goal.returns-clause-line
returns-clause-line c =
    subst (λ k. Takes k (with_tally (the_view c.self.inside)) (tally c.args.counts.now) true) c.self.view_is
    (tally_takes (the_view c.self.inside) c.args.counts.now (c.has_tally.ensures.0 c.if-not-has_tally.false) (c.fits_tally.ensures.0 c.if-not-fits_tally.false))
