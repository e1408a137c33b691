use Rattle.std.proofs.Common.{◌≡◌, List, take, map, length}
use Rattle.std.specs.Prelude.{ℤ}
use Rattle.std.specs.List.{enumerate_from}
use Rattle.iges_params.specs.Contents.{value_count}
use Rattle.changed_file.specs.Emptied.{AreMarksOf, emptied_record}
use Rattle.changed_file.proofs.EntrySteps.{IsEmptied}
use Rattle.changed_file.proofs.emptying.put_entries.Given as goal

abbrev pub invariant-entries : goal.invariant-entries
invariant-entries l = record {
  start : l.new.start ≡ l.fn.new.start;
  global : l.new.global ≡ l.fn.new.global;
  entries : (ns us : List ℤ) → AreMarksOf l.gone ns (length l.fn.file.entries) → AreMarksOf l.used us (length l.fn.file.entries)
      → l.new.entries ≡ map (emptied_record ns us) (take l.i (enumerate_from 0 l.fn.file.entries));
  left : IsEmptied l.fn.file l.file l.i;
  counted : l.count ≡ value_count l.new.entries;
}
