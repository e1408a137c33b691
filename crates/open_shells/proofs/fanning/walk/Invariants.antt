use Rattle.std.proofs.Common.{◌≡◌, length}
use Rattle.edge_uses.specs.RowRelations.{StartsAt}
use Rattle.shell_reach.specs.Reaching.{row_numbers}
use Rattle.open_shells.proofs.FanWalks.{Walked}
use Rattle.open_shells.proofs.fanning.walk.Given as goal

abbrev pub invariant-walk : goal.invariant-walk
invariant-walk l = record {
  len : length (row_numbers l.rows) ≡ l.i;
  at : StartsAt l.mated l.vertex l.at;
  walked : Walked l.mated l.first (row_numbers l.rows) l.at;
}
