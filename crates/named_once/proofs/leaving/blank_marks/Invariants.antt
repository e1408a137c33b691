use Rattle.std.proofs.Common.{◌≡◌, false}
use Rattle.std.specs.Prelude.{replicate}
use Rattle.named_once.proofs.leaving.blank_marks.Given as goal

abbrev pub invariant-entries : goal.invariant-entries
invariant-entries l = l.marks ≡ replicate l.i false
