-- What a checker keeps of a shell, in arrays.
use Rattle.std.specs.Prelude.{◌≡◌, ℕ, zero, suc, ◌+◌, ◌-◌, ◌*◌, ◌≤◌, ◌<◌, ◌^◌, ◌==◌, ◌&&◌, ◌↔◌, Bool, true, List, [], ◌∷◌, length, map, Contains, Option, Some}
use Rattle.std.specs.Prelude.{None, IsSomeAnd, slice_get, if◌then◌else◌}
use Rattle.solid_data.specs.declared.solid.LoopAt.{LoopAt}
use Rattle.edge_uses.specs.declared.row.Row.{Row}
use Rattle.edge_uses.specs.ShellRows.{ShellRows}
use Rattle.edge_uses.specs.RowRelations.{point_count}
use Rattle.cert_lines.specs.declared.counts.ShellCounts.{ShellCounts}
use Rattle.cert_lines.specs.declared.counts.TallyCounts.{TallyCounts}
use Rattle.cert_lines.specs.declared.version.Version.{Version}
use Rattle.cert_state.specs.declared.due.Due.{Due}
use Rattle.cert_state.specs.Progress.{IsMate, row_named, start_count, tallies}

-- 0 stands for none
abbrev pub above_zero : Option ℕ → Option ℕ
above_zero (Some (suc n)) = Some (suc n)
above_zero _ = None

-- the mate of a row, both from 1, in an array by row from 0
abbrev pub mate_in : List ℕ → ℕ → Option ℕ
mate_in mates zero = None
mate_in mates (suc r) = above_zero (slice_get mates r)

-- the array gives each row of these pairs the other as its mate, and no row another
abbrev pub HoldsMates : List ℕ → List (ℕ × ℕ) → Type 0
HoldsMates mates pairs = (r m : ℕ) → IsMate pairs r m ↔ (mate_in mates r ≡ Some m)

-- the array is true at these faces and at no other
abbrev pub HoldsFaces : List Bool → List ℕ → Type 0
HoldsFaces reached faces = (f : ℕ) → Contains faces f ↔ (slice_get reached f ≡ Some true)

-- the counts of a SHELL line are those of the shell
pub record AreCounts (d : ShellRows) (counts : ShellCounts) : Type 0 where
  pub rows_counted : counts.rows ≡ length d.rows
  pub edges_counted : counts.edges ≡ length d.edges
  pub corners_counted : counts.corners ≡ length d.vertices
  pub faces_counted : counts.faces ≡ d.face_count
  pub two_rows_each : 2 * counts.edges ≡ counts.rows

-- the counts of a TALLY line are those of the shell, which has so many loops
pub record IsTally (d : ShellRows) (loops : ℕ) (t : TallyCounts) : Type 0 where
  pub vertices_counted : t.vertices ≡ length d.vertices
  pub edges_counted : t.edges ≡ length d.edges
  pub faces_counted : t.faces ≡ d.face_count
  pub loops_counted : t.loops ≡ loops

-- how many rows a corner line at a vertex has, or 0 where none fits there
abbrev pub corner_size : ShellRows → ℕ → ℕ
corner_size d v = if point_count d v == 0 then start_count d v else 0

-- No row starts at the vertex, and one loop without an edge lies there.
abbrev pub is_alone : ShellRows → ℕ → Bool
is_alone d v = (start_count d v == 0) && (point_count d v == 1)

-- p comes before q: in an earlier face, or earlier in the same face
abbrev pub Precedes : LoopAt → LoopAt → Type 0
Precedes p q = (p.face.0 ≤ q.face.0) × (p.face.0 ≡ q.face.0 → p.place < q.place)

-- each stands before all that follow it
abbrev pub InFileOrder : List (LoopAt × ℕ) → Type 0
InFileOrder points = (i j : ℕ) (p q : LoopAt × ℕ) → i < j → slice_get points i ≡ Some p → slice_get points j ≡ Some q → Precedes p.0 q.0

-- Of a shell: its rows; how many loops it has; how many rows a corner line has that starts with a row; which loops without an edge are alone at their vertex;
-- the mate of each row; which faces are reached; the lines that are due; the last edge and the last vertex.
pub record ShellCheckState : Type 0 where
  pub rows : ShellRows
  pub loops : ℕ
  pub sizes : List ℕ
  pub alone : List Bool
  pub mates : List ℕ
  pub reached : List Bool
  pub due : Due
  pub last_edge : Option ℕ
  pub last_vertex : Option ℕ

-- how many lines are due, of whatever kind
abbrev pub lines_due : Due → ℕ
lines_due due = due.edges + due.corners + due.reach + due.tally

-- all lines of a shell with these rows
abbrev pub all_due : Version → ShellRows → Due
all_due v d = record { edges = length d.edges; corners = length d.vertices; reach = d.face_count - 1; tally = tallies v }

-- what is kept of a shell whatever the lines are
pub record IsCheckState (k : ShellCheckState) : Type 0 where
  pub sizes : k.sizes ≡ map (λ (r : Row). corner_size k.rows r.from.0) k.rows.rows
  pub alone : k.alone ≡ map (λ (p : LoopAt × ℕ). is_alone k.rows p.1) k.rows.points
  pub in_order : InFileOrder k.rows.points
  pub each_row : length k.mates ≡ length k.rows.rows
  pub each_face : length k.reached ≡ k.rows.face_count
  pub few : lines_due k.due < 2 ^ 34
  -- a row that has a mate has no greater edge than the last one
  pub passed : (r m : ℕ) → mate_in k.mates r ≡ Some m → (row : Row) × (row_named k.rows r ≡ Some row) × IsSomeAnd k.last_edge (λ e. row.edge.0 ≤ e)

-- no line of the shell was read
pub record IsFresh (v : Version) (d : ShellRows) (loop_count : ℕ) (k : ShellCheckState) : Type 0 where
  pub rows : k.rows ≡ d
  pub loops : k.loops ≡ loop_count
  pub due : k.due ≡ all_due v d
  pub last_edge : k.last_edge ≡ None
  pub last_vertex : k.last_vertex ≡ None
  pub mates : HoldsMates k.mates []
  pub reached : HoldsFaces k.reached (0 ∷ [])
