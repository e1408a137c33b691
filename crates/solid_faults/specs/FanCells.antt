-- Private: counts for the vertices of a shell.
use Rattle.std.specs.Prelude.{◌≡◌, ◌-◌, ℕ, Bool}
use Rattle.solid_data.specs.Cells.{Celled}
use Rattle.solid_data.specs.Ranges.{IsSpanOf}
use Rattle.edge_uses.specs.ShellRows.{ShellRows, AreRows}
use Rattle.solid_faults.specs.Fans.{added}

-- counts that are 0 but for vertices of the shell
pub record IsOnVertices (d : ShellRows) (c : Celled ℕ) : Type 0 where
  pub rows : AreRows d
  pub numbers : c.numbers ≡ d.vertices
  pub span : IsSpanOf c.span d.vertices
  pub blank : c.blank ≡ 0

-- one more for the vertex, where it is wanted
abbrev pub counted_more : Celled ℕ → ℕ → Bool → Celled ℕ
counted_more c v wanted = record { numbers = c.numbers; span = c.span; blank = c.blank; cells = added c.cells (v - c.span.least) wanted }
