use Rattle.std.proofs.Common.{◌≡◌, ◌<◌, ◌||◌, ◌-◌, ℕ, false, get_or, length}
use Rattle.where_unjudged.proofs.Entities.{named_from}
use Rattle.where_unjudged.proofs.loose.mark_all.Given as goal

abbrev pub invariant-entries : goal.invariant-entries
invariant-entries l = record {
  len : length l.marks ≡ length l.fn.marks;
  marks : (k : ℕ) → k < length l.fn.marks → (get_or l.marks k false || named_from l.member l.file k l.i (l.count - l.i))
      ≡ (get_or l.fn.marks k false || named_from l.member l.file k 0 l.count);
}
