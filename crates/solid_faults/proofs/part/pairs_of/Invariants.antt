use Rattle.std.proofs.Common.{◌≡◌, ◌++◌, map, drop}
use Rattle.solid_faults.specs.PartPairs.{part_pair, part_pairs}
use Rattle.solid_faults.proofs.part.pairs_of.Given as goal

abbrev pub invariant-rows : goal.invariant-rows
invariant-rows l = l.out.items ++ map (part_pair l.rows l.tally.span l.tally.seen) (drop l.i l.rows.rows) ≡ part_pairs l.rows l.tally.span l.tally.seen
