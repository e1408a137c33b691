use Rattle.std.proofs.Common.{◌≡◌, drop}
use Rattle.solid_hints.specs.Flags.{pair_fails}
use Rattle.solid_hints.proofs.flags.pair_fails.Given as goal

abbrev pub invariant-shells : goal.invariant-shells
invariant-shells l = pair_fails l.all (drop l.k-index l.shells) ≡ pair_fails l.all l.shells
