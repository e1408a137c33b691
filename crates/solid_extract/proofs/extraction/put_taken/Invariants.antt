use Rattle.std.proofs.Common.{◌≡◌, map, take, drop}
use Rattle.entry_references.specs.EntrySets.{numbers_of}
use Rattle.solid_extract.specs.Extracted.{new_record}
use Rattle.solid_extract.specs.Making.{records_of}
use Rattle.solid_extract.proofs.Taken.{IsLeft}
use Rattle.solid_extract.proofs.extraction.put_taken.Given as goal

abbrev pub invariant-entries : goal.invariant-entries
invariant-entries l = record {
  left : IsLeft l.fn.file l.file (drop l.i (numbers_of l.kept));
  entries : l.new.entries ≡ map (new_record l.fn.file l.renaming) (records_of l.fn.file (take l.i (numbers_of l.kept)));
}
