use Rattle.std.proofs.Common.{◌≡◌, ◌+◌, ◌≤◌, drop}
use Rattle.entry_references.specs.EntrySets.{marks_set}
use Rattle.list_compact.proofs.marks.count_marks.Given as goal

abbrev pub invariant-marks : goal.invariant-marks
invariant-marks l = record {
  sum : l.count + marks_set (drop l.mark-index l.row) ≡ marks_set l.row;
  few : l.count ≤ l.mark-index;
}
