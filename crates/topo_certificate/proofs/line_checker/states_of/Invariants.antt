use Rattle.topo_certificate.proofs.Checking.{Waits}
use Rattle.topo_certificate.proofs.line_checker.states_of.Given as goal

abbrev pub invariant-shells : goal.invariant-shells
invariant-shells l = Waits l.version l.solid l.k l.waiting.items
