use Rattle.std.proofs.Common.{◌≡◌, ℕ, ◌+◌, ◌*◌, ◌<◌, ◌≤◌, length, drop, slice_index_or}
use Rattle.entry_references.specs.EntrySets.{numbers_of}
use Rattle.solid_extract.specs.Renaming.{place_of}
use Rattle.solid_extract.proofs.renaming.Renaming.new.Given as goal

abbrev pub invariant-kept : goal.invariant-kept
invariant-kept l = record {
  long : length l.places.items ≡ l.size;
  below : l.left ≤ length l.kept;
  stand : (j : ℕ) → j < l.size → slice_index_or l.places.items j 0 ≡ l.left + place_of (drop l.left (numbers_of l.kept)) (2 * j + 1);
}

abbrev pub decreases-kept : goal.decreases-kept
decreases-kept l = l.left
