use Rattle.std.proofs.Common.{ℕ, ◌+◌, ◌≤◌, List, length}
use Rattle.cert_text.specs.Text.{AreNumbers}
use Rattle.cert_state.specs.CheckState.{HoldsMates}
use Rattle.open_certificate.proofs.PathWalks.{Walked}
use Rattle.open_certificate.proofs.fitting.path_end.Given as goal

abbrev pub invariant-turns : goal.invariant-turns
invariant-turns l = record {
  room : l.count + length l.rest ≤ length l.others + 1;
  walked : (pairs : List (ℕ × ℕ)) (rs : List ℕ) → HoldsMates l.mates pairs → AreNumbers l.others rs → Walked l.rows pairs l.first l.last l.rest rs l.count;
}

abbrev pub decreases-turns : goal.decreases-turns
decreases-turns l = length l.rest
