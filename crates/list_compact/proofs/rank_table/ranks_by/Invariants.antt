use Rattle.std.proofs.Common.{◌≡◌, length, map, take}
use Rattle.list_compact.specs.Marking.{ranks_of}
use Rattle.list_compact.specs.Rows.{rows_from, AreEnds}
use Rattle.list_compact.proofs.rank_table.ranks_by.Given as goal

abbrev pub invariant-rows : goal.invariant-rows
invariant-rows l = record {
  rows : rows_from 0 l.ends.items l.ranks.items ≡ map (ranks_of 0) (take l.i l.marks);
  ends : AreEnds 0 l.ends.items (length l.ranks.items);
}
