use Rattle.std.proofs.Common.{length, ◌+◌, ◌≤◌}
use Rattle.iges_lines.specs.Extending.{Extends}
use Rattle.iges_lines.proofs.Fed.{IsLeft}
use Rattle.iges_lines.proofs.taken_lines.TakenLines.take_ended.Given as goal

abbrev pub invariant-lines : goal.invariant-lines
invariant-lines l = record {
  left : IsLeft l.fn.self l.bytes l.self l.left;
  extends : Extends l.fn.self.sections l.self.sections;
  few : l.self.number + length l.left ≤ l.fn.self.number + length l.bytes;
}

abbrev pub decreases-lines : goal.decreases-lines
decreases-lines l = length l.left
