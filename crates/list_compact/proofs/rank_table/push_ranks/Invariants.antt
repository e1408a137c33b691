use Rattle.std.proofs.Common.{◌≡◌, ◌≤◌, ◌++◌, drop}
use Rattle.list_compact.specs.Marking.{ranks_of}
use Rattle.list_compact.proofs.rank_table.push_ranks.Given as goal

abbrev pub invariant-marks : goal.invariant-marks
invariant-marks l = record {
  ranks : l.ranks.items ++ ranks_of l.count (drop l.mark-index l.marks) ≡ l.fn.ranks.items ++ ranks_of 0 l.marks;
  few : l.count ≤ l.mark-index;
}
