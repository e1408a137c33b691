use Rattle.std.proofs.Common.{◌≡◌, ◌<◌, ◌==◌, ◌||◌, ℕ, false, get_or, drop, vec_len}
use Rattle.std.specs.List.{list_any}
use Rattle.change_fits.proofs.covering.marks_of.Given as goal

abbrev pub invariant-numbers : goal.invariant-numbers
invariant-numbers l = record {
  len : vec_len l.marks ≡ l.count;
  marks : (k : ℕ) → k < l.count → (get_or l.marks.items k false || list_any (λ m. m == k) (drop l.i l.numbers)) ≡ list_any (λ m. m == k) l.numbers;
}
