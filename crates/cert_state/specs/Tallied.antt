-- Private: how many rows start at each vertex of a range, and how many loops without an edge lie there.
use Rattle.std.specs.Prelude.{◌≡◌, ℕ, map}
use Rattle.solid_data.specs.declared.solid.LoopAt.{LoopAt}
use Rattle.solid_data.specs.Cells.{Celled, cell_of}
use Rattle.solid_data.specs.Ranges.{IsWithin, IsSpanOf}
use Rattle.edge_uses.specs.declared.row.Row.{Row}
use Rattle.edge_uses.specs.ShellRows.{ShellRows, AreRows}
use Rattle.edge_uses.specs.RowRelations.{point_count}
use Rattle.cert_state.specs.CheckState.{corner_size, is_alone}
use Rattle.cert_state.specs.Progress.{start_count}
use Rattle.cert_state.specs.declared.tallies.Sizes.{Sizes}

-- a count for each of the range of the shell's vertices
pub record AreCountsOf (count : ℕ → ℕ) (d : ShellRows) (c : Celled ℕ) : Type 0 where
  pub rows : AreRows d
  pub span : IsSpanOf c.span d.vertices
  pub each : (v : ℕ) → IsWithin c.span v → cell_of c v ≡ count v

abbrev pub AreStarts : ShellRows → Celled ℕ → Type 0
AreStarts d c = AreCountsOf (start_count d) d c

abbrev pub ArePoints : ShellRows → Celled ℕ → Type 0
ArePoints d c = AreCountsOf (point_count d) d c

-- by row the size of a corner line that starts with it, and by loop without an edge whether it is alone
pub record AreSizes (d : ShellRows) (s : Sizes) : Type 0 where
  pub rows : s.rows.items ≡ map (λ (r : Row). corner_size d r.from.0) d.rows
  pub alone : s.alone.items ≡ map (λ (p : LoopAt × ℕ). is_alone d p.1) d.points
