use Rattle.std.proofs.Common.{◌≡◌, take}
use Rattle.entry_references.specs.EntrySets.{with_numbers}
use Rattle.entry_references.proofs.adding.add_numbers.Given as goal

abbrev pub invariant-numbers : goal.invariant-numbers
invariant-numbers l = record {
  size : l.set.size ≡ l.fn.set.size;
  first : l.set.numbers ≡ with_numbers l.fn.set.numbers (take l.number-index l.numbers);
}
