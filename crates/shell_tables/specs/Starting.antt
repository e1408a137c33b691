-- How many rows start at a vertex, and which first; how many loops without an edge lie there, and which last.
use Rattle.std.specs.Prelude.{◌≡◌, ◌<◌, ◌≤◌, ◌+◌, ◌-◌, ◌==◌, ℕ, List, count_by, Contains, if◌then◌else◌, get_or}
use Rattle.solid_data.specs.declared.solid.FaceAt.{FaceAt}
use Rattle.solid_data.specs.declared.solid.LoopAt.{LoopAt}
use Rattle.solid_data.specs.declared.spanning.Span.{Span}
use Rattle.solid_data.specs.Cells.{Celled}
use Rattle.solid_data.specs.Ranges.{IsWithin, IsSpanOf}
use Rattle.edge_uses.specs.declared.row.Row.{Row}
use Rattle.edge_uses.specs.ShellRows.{ShellRows}
use Rattle.edge_uses.specs.RowRelations.{StartsAt, point_count}
use Rattle.shell_tables.specs.declared.starting.Starts.{Starts}
use Rattle.shell_tables.specs.declared.starting.Points.{Points}

abbrev pub no_starts : Starts
no_starts = record { count = 0; first = 0 }

-- row r starts there too
abbrev pub one_start_more : Starts → ℕ → Starts
one_start_more m r = record { count = m.count + 1; first = (if m.count == 0 then r else m.first) }

pub record AreStarts (d : ShellRows) (v : ℕ) (m : Starts) : Type 0 where
  pub count : m.count ≡ count_by (λ (r : Row). r.from.0 == v) d.rows
  pub first : 0 < m.count → StartsAt d v m.first
  pub least : (x : ℕ) → StartsAt d v x → (0 < m.count) × (m.first ≤ x)

abbrev pub AreAllStarts : ShellRows → Span → List Starts → Type 0
AreAllStarts d span all = (v : ℕ) → IsWithin span v → AreStarts d v (get_or all (v - span.least) no_starts)

pub record AreStartCells (d : ShellRows) (c : Celled Starts) : Type 0 where
  pub span : IsSpanOf c.span d.vertices
  pub blank : c.blank ≡ no_starts
  pub all : AreAllStarts d c.span c.cells

abbrev pub no_points : Points
no_points = record { count = 0; last = record { face = record { 0 = 0 }; place = 0 } }

-- one more lies there
abbrev pub one_point_more : Points → LoopAt → Points
one_point_more m at = record { count = m.count + 1; last = at }

pub record ArePoints (d : ShellRows) (v : ℕ) (m : Points) : Type 0 where
  pub count : m.count ≡ point_count d v
  pub last : 0 < m.count → Contains d.points (m.last, v)

abbrev pub AreAllPoints : ShellRows → Span → List Points → Type 0
AreAllPoints d span all = (v : ℕ) → IsWithin span v → ArePoints d v (get_or all (v - span.least) no_points)

pub record ArePointCells (d : ShellRows) (c : Celled Points) : Type 0 where
  pub span : IsSpanOf c.span d.vertices
  pub blank : c.blank ≡ no_points
  pub all : AreAllPoints d c.span c.cells
