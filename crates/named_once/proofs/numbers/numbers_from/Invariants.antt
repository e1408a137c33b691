use Rattle.std.proofs.Common.{◌≡◌, ◌+◌, ◌*◌, ◌≤◌, ◌++◌}
use Rattle.named_once.specs.Told.{numbers_from}
use Rattle.named_once.proofs.numbers.numbers_from.Given as goal

abbrev pub invariant-numbers : goal.invariant-numbers
invariant-numbers l = record {
  told : l.numbers ++ numbers_from l.values l.at l.step l.left ≡ numbers_from l.values l.fn.at l.step l.count;
  room : l.at + 2 * l.left ≤ 3 + 2 * l.count;
}

abbrev pub decreases-numbers : goal.decreases-numbers
decreases-numbers l = l.left
