use Rattle.record_numbers.specs.Marked.{IsNumbering}
use Rattle.record_numbers.proofs.numbering.number_all.Given as goal

abbrev pub invariant-order : goal.invariant-order
invariant-order l = IsNumbering l.file l.fn.marks.items l.fn.keys → IsNumbering l.file l.marks.items l.keys
