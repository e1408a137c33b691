-- Rows of which each has one mate at most.
use Rattle.std.specs.Prelude.{◌≡◌, ℕ}
use Rattle.edge_uses.specs.ShellRows.{ShellRows, AreRows}
use Rattle.edge_uses.specs.RowRelations.{AreMates}

pub record HaveOneMate (d : ShellRows) : Type 0 where
  pub rows : AreRows d
  pub one : (r m k : ℕ) → AreMates d r m → AreMates d r k → m ≡ k
