use Rattle.std.specs.Prelude.{None, slice_index_or}
use Rattle.std.proofs.Common.{◌≡◌, ℕ, ◌≤◌, take, map}
use Rattle.std.specs.List.{enumerate_from}
use Rattle.iges_params.specs.Contents.{value_count}
use Rattle.changed_file.specs.Changed.{kept_record}
use Rattle.changed_file.proofs.rewriting.put_old.Given as goal

abbrev pub invariant-entries : goal.invariant-entries
invariant-entries l = record {
  start : l.new.start ≡ l.fn.new.start;
  global : l.new.global ≡ l.fn.new.global;
  entries : l.new.entries ≡ map (kept_record l.fn.slots) (take l.i (enumerate_from 0 l.file.entries));
  left : (j : ℕ) → l.i ≤ j → slice_index_or l.slots j None ≡ slice_index_or l.fn.slots j None;
  counted : l.count ≡ value_count l.new.entries;
}
