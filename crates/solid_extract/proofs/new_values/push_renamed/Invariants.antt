use Rattle.std.proofs.Common.{◌≡◌, ◌++◌, take}
use Rattle.solid_extract.specs.NewValues.{new_numbers}
use Rattle.solid_extract.proofs.new_values.push_renamed.Given as goal

abbrev pub invariant-numbers : goal.invariant-numbers
invariant-numbers l = l.list ≡ l.fn.list ++ new_numbers l.renaming (take l.number-index l.numbers)
