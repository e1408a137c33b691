use Rattle.std.proofs.Common.{◌≡◌, take}
use Rattle.solid_faults.specs.UseCounts.{once_count, same_way_count, many_count}
use Rattle.solid_faults.proofs.tallying.use_counts.Given as goal

abbrev pub invariant-edges : goal.invariant-edges
invariant-edges l = record {
  once : l.counts.once ≡ once_count (take l.i l.unpaired);
  same_way : l.counts.same_way ≡ same_way_count (take l.i l.unpaired);
  many : l.counts.many ≡ many_count (take l.i l.unpaired);
}
