-- The numbers of the reasons, and the words that are printed for them.
use Rattle.std.specs.Prelude.{ℕ, List, codes}
use Rattle.iges_lines.specs.declared.reason.Reason.{Reason}
use Rattle.iges_lines.specs.declared.reason.Reason.TheVariants.{NotFixed, Length, Letter, Number, Counts, Missing, After, Unpaired, Field, TypesDiffer, Range}
use Rattle.iges_lines.specs.declared.reason.Reason.TheVariants.{Delimiter, GlobalValue, GlobalKind, BackPointer, RecordValue, RecordType}

abbrev pub reason_number : Reason → ℕ
reason_number NotFixed = 1
reason_number Length = 2
reason_number Letter = 3
reason_number Number = 4
reason_number Counts = 5
reason_number Missing = 6
reason_number After = 7
reason_number Unpaired = 8
reason_number Field = 9
reason_number TypesDiffer = 10
reason_number Range = 11
reason_number Delimiter = 12
reason_number GlobalValue = 13
reason_number GlobalKind = 14
reason_number BackPointer = 15
reason_number RecordValue = 16
reason_number RecordType = 17

abbrev pub reason_word : Reason → List ℕ
reason_word NotFixed = codes "not-fixed"
reason_word Length = codes "length"
reason_word Letter = codes "letter"
reason_word Number = codes "number"
reason_word Counts = codes "counts"
reason_word Missing = codes "missing"
reason_word After = codes "after"
reason_word Unpaired = codes "unpaired"
reason_word Field = codes "field"
reason_word TypesDiffer = codes "types-differ"
reason_word Range = codes "range"
reason_word Delimiter = codes "delimiter"
reason_word GlobalValue = codes "global-value"
reason_word GlobalKind = codes "global-kind"
reason_word BackPointer = codes "back-pointer"
reason_word RecordValue = codes "record-value"
reason_word RecordType = codes "record-type"
