use Rattle.std.proofs.Common.{length}
use Rattle.open_commands.proofs.Judged.{IsJudgedSoFar}
use Rattle.open_commands.proofs.judging.judge_lines.Given as goal

abbrev pub invariant-lines : goal.invariant-lines
invariant-lines l = record { judged : IsJudgedSoFar l.fn.checker.solid l.text l.checker l.rest }

abbrev pub decreases-lines : goal.decreases-lines
decreases-lines l = length l.rest
