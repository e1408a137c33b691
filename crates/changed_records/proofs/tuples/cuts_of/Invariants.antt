use Rattle.std.proofs.Common.{◌≡◌, ◌+◌, ◌*◌, ◌≤◌, ◌++◌, drop, length, map}
use Rattle.brep_lists.specs.Record.{count_at}
use Rattle.changed_records.specs.Loops.{behind_tuples, tuple_cuts, tuple_from}
use Rattle.changed_records.proofs.tuples.cuts_of.Given as goal

abbrev pub invariant-tuples : goal.invariant-tuples
invariant-tuples l = record {
  tuples : map (tuple_from l.values) l.places ++ tuple_cuts l.left (drop l.end l.values) ≡ tuple_cuts (count_at l.values 0) (drop 1 l.values);
  behind : behind_tuples l.left (drop l.end l.values) ≡ behind_tuples (count_at l.values 0) (drop 1 l.values);
  room : l.end ≤ 6 + 3 * length l.values;
}

abbrev pub decreases-tuples : goal.decreases-tuples
decreases-tuples l = l.left
