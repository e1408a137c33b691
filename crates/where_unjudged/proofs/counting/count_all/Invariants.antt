use Rattle.std.proofs.Common.{◌≡◌, ◌<◌, ℕ, get_or, length, take}
use Rattle.std.specs.Prelude.{count_by}
use Rattle.where_unjudged.specs.Counts.{has_type}
use Rattle.where_unjudged.proofs.counting.count_all.Given as goal

abbrev pub invariant-entries : goal.invariant-entries
invariant-entries l = record {
  len : length l.counts ≡ length l.fn.counts;
  counts : (t : ℕ) → t < length l.fn.counts → get_or l.counts t 0 ≡ count_by (has_type t) (take l.i l.file.entries);
}
