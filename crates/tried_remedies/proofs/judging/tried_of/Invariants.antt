use Rattle.tried_remedies.specs.Tried.{AreTried}
use Rattle.tried_remedies.proofs.judging.tried_of.Given as goal

abbrev pub invariant-found : goal.invariant-found
invariant-found l = AreTried l.solid l.known.geometry l.shell.number l.tried
