use Rattle.std.proofs.Common.{◌≡◌, ◌<◌, ◌||◌, ℕ, false, get_or, drop, vec_len}
use Rattle.where_entities.specs.Entities.{is_among, number_at}
use Rattle.where_entities.proofs.described.marks_of.Given as goal

abbrev pub invariant-numbers : goal.invariant-numbers
invariant-numbers l = record {
  len : vec_len l.marks ≡ l.count;
  marks : (k : ℕ) → k < l.count → (get_or l.marks.items k false || is_among (drop l.i l.listed) (number_at k)) ≡ is_among l.listed (number_at k);
}
