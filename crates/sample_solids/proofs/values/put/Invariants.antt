use Rattle.std.proofs.Common.{◌≡◌, ◌++◌, map, take}
use Rattle.sample_solids.specs.Sample.{whole}
use Rattle.sample_solids.proofs.values.put.Given as goal

abbrev pub invariant-numbers : goal.invariant-numbers
invariant-numbers l = l.values ≡ l.fn.values ++ map whole (take l.number-index l.numbers)
