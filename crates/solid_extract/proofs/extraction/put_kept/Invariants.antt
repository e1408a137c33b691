use Rattle.std.proofs.Common.{◌≡◌, map, take}
use Rattle.entry_references.specs.EntrySets.{numbers_of}
use Rattle.solid_extract.specs.Extracted.{new_record}
use Rattle.solid_extract.specs.Making.{records_of}
use Rattle.solid_extract.proofs.extraction.put_kept.Given as goal

abbrev pub invariant-entries : goal.invariant-entries
invariant-entries l = record {
  start : l.new.start ≡ l.fn.new.start;
  global : l.new.global ≡ l.fn.new.global;
  entries : l.new.entries ≡ map (new_record l.file l.renaming) (records_of l.file (take l.i (numbers_of l.kept)));
}
