use Rattle.std.proofs.Common.{◌≡◌, map, take}
use Rattle.std.specs.List.{enumerate_from}
use Rattle.list_compact.specs.Dropped.{dropped_record}
use Rattle.list_compact.proofs.Emptied.{IsEmptied}
use Rattle.list_compact.proofs.dropping.put_dropped.Given as goal

abbrev pub invariant-entries : goal.invariant-entries
invariant-entries l = record {
  left : IsEmptied l.fn.file l.file l.i;
  entries : l.new.entries ≡ map (dropped_record l.fn.file) (take l.i (enumerate_from 0 l.fn.file.entries));
}
