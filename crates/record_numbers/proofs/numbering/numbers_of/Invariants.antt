use Rattle.std.proofs.Common.{take}
use Rattle.std.specs.List.{AllZip}
use Rattle.record_numbers.specs.Marked.{IsNumberOf, IsNumbering}
use Rattle.record_numbers.proofs.numbering.numbers_of.Given as goal

abbrev pub invariant-entries : goal.invariant-entries
invariant-entries l = record {
  numbering : IsNumbering l.file l.marks l.keys;
  each : AllZip (IsNumberOf l.file l.marks l.keys) (take l.number-index l.entries) l.numbers.items;
}
