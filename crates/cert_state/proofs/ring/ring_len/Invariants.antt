use Rattle.std.proofs.Common.{ℕ, ◌+◌, ◌≤◌, List, length}
use Rattle.cert_state.specs.CheckState.{HoldsMates}
use Rattle.cert_state.specs.Ring.{BeginsWithNumbers}
use Rattle.cert_state.proofs.Rings.{Walked}
use Rattle.cert_state.proofs.ring.ring_len.Given as goal

abbrev pub invariant-turns : goal.invariant-turns
invariant-turns l = record {
  room : l.count + length l.rest ≤ length l.others + 1;
  read : (rs stop : List ℕ) → BeginsWithNumbers l.rest rs stop → (ms : List ℕ) × BeginsWithNumbers l.others ms stop;
  walked : (pairs : List (ℕ × ℕ)) (rs stop : List ℕ) → HoldsMates l.mates pairs → BeginsWithNumbers l.others rs stop
      → Walked l.rows pairs l.first l.last l.rest rs stop l.count;
}

abbrev pub decreases-turns : goal.decreases-turns
decreases-turns l = length l.rest
