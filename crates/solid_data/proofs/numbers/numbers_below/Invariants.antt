use Rattle.std.proofs.Common.{◌≡◌}
use Rattle.solid_data.specs.Ring.{numbers_from}
use Rattle.solid_data.proofs.numbers.numbers_below.Given as goal

abbrev pub invariant-numbers : goal.invariant-numbers
invariant-numbers l = l.numbers.items ≡ numbers_from 0 l.i
