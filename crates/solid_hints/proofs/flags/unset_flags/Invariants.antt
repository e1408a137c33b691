use Rattle.solid_hints.proofs.Counts.{Counted}
use Rattle.solid_hints.proofs.flags.unset_flags.Given as goal

abbrev pub invariant-shells : goal.invariant-shells
invariant-shells l = Counted l.solid l.k l.count
