use Rattle.where_solids.proofs.VerdictSteps.{Rests}
use Rattle.where_solids.proofs.verdicts.verdict.Given as goal

abbrev pub invariant-shells : goal.invariant-shells
invariant-shells l = Rests l.solid l.k
