-- The counts of a shell.
use Rattle.std.specs.Prelude.{◌≡◌, length}
use Rattle.edge_uses.specs.ShellRows.{ShellRows}
use Rattle.shell_counts.specs.declared.counting.ShellCounts.{ShellCounts}

-- how many rows the shell has, and how many edges and vertices occur in it
pub record AreCounts (counts : ShellCounts) (d : ShellRows) : Type 0 where
  pub uses : counts.uses ≡ length d.rows
  pub edges : counts.edges ≡ length d.edges
  pub vertices : counts.vertices ≡ length d.vertices
