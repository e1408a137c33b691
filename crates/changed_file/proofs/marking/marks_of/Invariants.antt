use Rattle.std.proofs.Common.{◌≡◌, ◌<◌, ◌+◌, ◌*◌, ◌||◌, ℕ, false, get_or, drop, length}
use Rattle.changed_file.specs.Emptied.{names_number}
use Rattle.changed_file.proofs.marking.marks_of.Given as goal

abbrev pub invariant-numbers : goal.invariant-numbers
invariant-numbers l = record {
  len : length l.marks.items ≡ l.count;
  marks : (k : ℕ) → k < l.count → (get_or l.marks.items k false || names_number (drop l.i l.numbers) (2 * k + 1)) ≡ names_number l.numbers (2 * k + 1);
}
