use Rattle.std.proofs.Common.{ℕ, ◌+◌, ◌≤◌, List, length}
use Rattle.cert_text.specs.Text.{AreNumbers}
use Rattle.open_certificate.specs.CheckState.{HoldsRows}
use Rattle.open_certificate.proofs.BorderWalks.{Walked}
use Rattle.open_certificate.proofs.fitting.border_len.Given as goal

abbrev pub invariant-rows : goal.invariant-rows
invariant-rows l = record {
  room : l.count + length l.rest ≤ length l.others + 1;
  walked : (alone : List ℕ) (rs : List ℕ) → HoldsRows l.lone alone → AreNumbers l.others rs → Walked l.fn.rows alone l.first l.last l.rest rs l.count;
}

abbrev pub decreases-rows : goal.decreases-rows
decreases-rows l = length l.rest
