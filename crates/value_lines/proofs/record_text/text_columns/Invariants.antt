use Rattle.std.proofs.Common.{◌≡◌, ◌++◌}
use Rattle.value_lines.specs.RecordText.{text_columns}
use Rattle.value_lines.proofs.record_text.text_columns.Given as goal

abbrev pub invariant-lines : goal.invariant-lines
invariant-lines l = l.text ++ text_columns l.left l.rest ≡ text_columns l.count l.bytes

abbrev pub decreases-lines : goal.decreases-lines
decreases-lines l = l.left
