use Rattle.std.proofs.Common.{◌≡◌, ◌++◌, drop, flat_map, length}
use Rattle.iges_params.specs.Contents.{value_count}
use Rattle.changed_file.specs.Changed.{new_record}
use Rattle.changed_file.proofs.rewriting.put_added.Given as goal

abbrev pub invariant-added : goal.invariant-added
invariant-added l = record {
  start : l.new.start ≡ l.fn.new.start;
  global : l.new.global ≡ l.fn.new.global;
  entries : l.new.entries ++ flat_map (new_record l.file) (drop l.i l.added) ≡ l.fn.new.entries ++ flat_map (new_record l.file) l.fn.added;
  long : length l.added ≡ length l.fn.added;
  counted : l.count ≡ value_count l.new.entries;
}
