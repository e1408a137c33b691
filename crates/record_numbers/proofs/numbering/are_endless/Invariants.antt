use Rattle.std.proofs.Common.{◌≡◌, ◌<◌, ℕ, pos}
use Rattle.record_numbers.specs.Marked.{LeadsOn, mark_of}
use Rattle.record_numbers.specs.declared.marks.Mark.TheVariants.{Endless}
use Rattle.record_numbers.proofs.numbering.are_endless.Given as goal

abbrev pub invariant-marks : goal.invariant-marks
invariant-marks l = (n : ℕ) → n < l.i → mark_of l.marks (pos n) ≡ Endless → LeadsOn l.file l.marks (pos n)
