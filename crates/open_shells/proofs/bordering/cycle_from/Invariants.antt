use Rattle.std.proofs.Common.{◌≡◌, ◌<◌, length}
use Rattle.open_certificate.specs.Sound.{IsBorder}
use Rattle.shell_reach.specs.Reaching.{row_numbers}
use Rattle.open_shells.proofs.BorderRows.{Passed}
use Rattle.open_shells.proofs.bordering.cycle_from.Given as goal

abbrev pub invariant-cycle : goal.invariant-cycle
invariant-cycle l = record {
  len : length (row_numbers l.rows) ≡ l._i;
  border : IsBorder l.mated l.at;
  away : 0 < length (row_numbers l.rows) → l.at ≡ l.first → ⊥;
  passed : Passed l.mated l.first (row_numbers l.rows) l.at;
}
