use Rattle.std.proofs.Common.{◌≡◌, ◌++◌, drop, flat_map}
use Rattle.changed_records.specs.Shells.{pair_values}
use Rattle.changed_records.proofs.shells.push_pairs.Given as goal

abbrev pub invariant-pairs : goal.invariant-pairs
invariant-pairs l = l.list ++ flat_map pair_values (drop l.i l.pairs) ≡ l.fn.list ++ flat_map pair_values l.pairs
