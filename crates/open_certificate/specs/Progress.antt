-- How far an open shell's certificate has come after some of its lines, and which line fits there. The lines are those after the head, the latest first.
use Rattle.std.specs.Prelude.{◌≡◌, ℕ, ◌+◌, ◌-◌, ◌*◌, ◌<◌, Bool, true, false, List, [], ◌∷◌, length, filter_map, flat_map, find, filter, Contains, Option, Some}
use Rattle.std.specs.Prelude.{None, option_map, ⊤}
use Rattle.std.specs.List.{AllByRecursion, AllZip, list_any}
use Rattle.solid_data.specs.Ring.{next_of_each}
use Rattle.solid_data.specs.SolidData.{SolidData}
use Rattle.edge_uses.specs.declared.row.Row.{Row}
use Rattle.edge_uses.specs.ShellRows.{ShellRows}
use Rattle.edge_uses.specs.RowRelations.{point_count}
use Rattle.cert_state.specs.Progress.{Progress, rows_of_shell, row_named, row_edge, row_start, row_face, point_named, first_of, start_count, IsAbove, TurnsTo}
use Rattle.cert_state.specs.Progress.{FitsEdge, FitsCorner, FitsPoint, FitsReach}
use Rattle.solid_data.specs.declared.solid.LoopAt.{LoopAt}
use Rattle.open_certificate.specs.Line.{OpenLine, head, shell, edge, lone, cycle, path, point, reach, border, end}

abbrev pub is_shell : OpenLine → Bool
is_shell (shell n rows edges corners faces borders) = true
is_shell _ = false

abbrev pub is_edge : OpenLine → Bool
is_edge (edge a b) = true
is_edge (lone a) = true
is_edge _ = false

abbrev pub is_corner : OpenLine → Bool
is_corner (cycle rs) = true
is_corner (path rs) = true
is_corner (point face l) = true
is_corner _ = false

abbrev pub is_reach : OpenLine → Bool
is_reach (reach r) = true
is_reach _ = false

abbrev pub is_border : OpenLine → Bool
is_border (border rs) = true
is_border _ = false

abbrev pub is_last : OpenLine → Bool
is_last end = true
is_last _ = false

-- how many of the lines are of a kind
abbrev pub number_of : (OpenLine → Bool) → List OpenLine → ℕ
number_of kind lines = length (filter kind lines)

-- how many edge, corner, reach and border lines a SHELL line asks for
abbrev pub asked : Option OpenLine → ℕ × ℕ × ℕ × ℕ
asked (Some (shell n rows edges corners faces borders)) = (edges, corners, faces - 1, borders)
asked _ = (0, 0, 0, 0)

abbrev pub mates_in : OpenLine → Option (ℕ × ℕ)
mates_in (edge a b) = Some (a, b)
mates_in _ = None

abbrev pub lone_in : OpenLine → Option ℕ
lone_in (lone a) = Some a
lone_in _ = None

-- the rows that a border line lists
abbrev pub border_rows : OpenLine → List ℕ
border_rows (border rs) = rs
border_rows _ = []

abbrev pub edge_in : ShellRows → OpenLine → Option ℕ
edge_in d (edge a b) = row_edge (row_named d a)
edge_in d (lone a) = row_edge (row_named d a)
edge_in d _ = None

abbrev pub vertex_in : ShellRows → OpenLine → Option ℕ
vertex_in d (cycle (r ∷ rs)) = row_start (row_named d r)
vertex_in d (path (r ∷ rs)) = row_start (row_named d r)
vertex_in d (point face l) = option_map (λ (p : LoopAt × ℕ). p.1) (point_named d face l)
vertex_in d _ = None

abbrev pub face_in : ShellRows → OpenLine → Option ℕ
face_in d (reach r) = row_face (row_named d r)
face_in d _ = None

abbrev pub border_in : OpenLine → Option ℕ
border_in (border rs) = first_of rs
border_in _ = None

-- The number of the next line, whether END came, whether the SHELL line did, the lines that are still due of each kind, the mates, the rows that are listed as
-- the only ones of their edges, how many rows the edge lines list, the last edge, the last vertex, the faces reached, the first row of the last border line,
-- and the rows that the border lines list.
pub record OpenProgress : Type 0 where
  pub number : ℕ
  pub ended : Bool
  pub begun : Bool
  pub edges_due : ℕ
  pub corners_due : ℕ
  pub reach_due : ℕ
  pub borders_due : ℕ
  pub mates : List (ℕ × ℕ)
  pub lone : List ℕ
  pub listed : ℕ
  pub last_edge : Option ℕ
  pub last_vertex : Option ℕ
  pub reached : List ℕ
  pub last_border : Option ℕ
  pub bordered : List ℕ

-- the rows of the one shell
abbrev pub shell_of : SolidData → ShellRows
shell_of s = rows_of_shell s 1

-- Each part is read off all lines so far.
unfoldable pub progress_from_latest : SolidData → List OpenLine → OpenProgress
progress_from_latest s lines = record {
  number = 2 + length lines;
  ended = list_any is_last lines;
  begun = list_any is_shell lines;
  edges_due = (asked (find is_shell lines)).0 - number_of is_edge lines;
  corners_due = (asked (find is_shell lines)).1 - number_of is_corner lines;
  reach_due = (asked (find is_shell lines)).2 - number_of is_reach lines;
  borders_due = (asked (find is_shell lines)).3 - number_of is_border lines;
  mates = filter_map mates_in lines;
  lone = filter_map lone_in lines;
  listed = 2 * length (filter_map mates_in lines) + length (filter_map lone_in lines);
  last_edge = first_of (filter_map (edge_in (shell_of s)) lines);
  last_vertex = first_of (filter_map (vertex_in (shell_of s)) lines);
  reached = 0 ∷ filter_map (face_in (shell_of s)) lines;
  last_border = first_of (filter_map border_in lines);
  bordered = flat_map border_rows lines;
}

-- as the progress of a closed solid's certificate, by which the conditions are stated that both kinds of certificates share
abbrev pub shared : OpenProgress → Progress
shared at = record {
  ended = at.ended;
  shell = 1;
  due = record { edges = at.edges_due; corners = at.corners_due; reach = at.reach_due; tally = 0 };
  mates =
      at.mates;
  last_edge = at.last_edge;
  last_vertex = at.last_vertex;
  reached = at.reached;
}

-- the shell's number and its counts; how many border lines come is free
pub record FitsShell (s : SolidData) (n rows edges corners faces : ℕ) : Type 0 where
  pub names : n ≡ s.entity.0
  pub rows_counted : rows ≡ length (shell_of s).rows
  pub edges_counted : edges ≡ length (shell_of s).edges
  pub corners_counted : corners ≡ length (shell_of s).vertices
  pub faces_counted : faces ≡ (shell_of s).face_count

-- The last edge line comes where all rows are listed.
abbrev pub ListsAll : ShellRows → OpenProgress → ℕ → Type 0
ListsAll d at more = at.edges_due ≡ 1 → at.listed + more ≡ length d.rows

-- a row of a greater edge than the one before
pub record FitsLone (d : ShellRows) (at : OpenProgress) (a : ℕ) : Type 0 where
  pub row : Row
  pub at_a : row_named d a ≡ Some row
  pub rises : IsAbove at.last_edge row.edge.0

-- from r on each is related to the next
abbrev pub IsChain : (ℕ → ℕ → Type 0) → ℕ → List ℕ → Type 0
IsChain R r [] = ⊤
IsChain R r (s ∷ rs) = R r s × IsChain R s rs

-- the last of r and the ones after it
abbrev pub last_of : ℕ → List ℕ → ℕ
last_of r [] = r
last_of r (s ∷ rs) = last_of s rs

-- The rows that start at a vertex, each turned to the next; the last one is listed as the only row of its edge.
pub record FitsPath (d : ShellRows) (at : OpenProgress) (r : ℕ) (rs : List ℕ) : Type 0 where
  pub vertex : ℕ
  pub lies_at : row_start (row_named d r) ≡ Some vertex
  pub turns : IsChain (TurnsTo d at.mates) r rs
  pub ends : Contains at.lone (last_of r rs)
  pub whole : length (r ∷ rs) ≡ start_count d vertex
  pub no_point : point_count d vertex ≡ 0
  pub rises : IsAbove at.last_vertex vertex

-- row s starts where row r ends
abbrev pub GoesOnTo : ShellRows → ℕ → ℕ → Type 0
GoesOnTo d r s = (a b : Row) × (row_named d r ≡ Some a) × (row_named d s ≡ Some b) × (a.to ≡ b.from)

-- Rows that are listed as the only ones of their edges: each starts where the one before ends, and the first, which is the least, where the last ends. Its
-- first row is greater than that of the line before.
pub record FitsBorder (d : ShellRows) (at : OpenProgress) (r : ℕ) (rs : List ℕ) : Type 0 where
  pub lone : AllByRecursion (Contains at.lone) (r ∷ rs)
  pub goes_on : AllZip (GoesOnTo d) (r ∷ rs) (next_of_each (r ∷ rs))
  pub least : AllByRecursion (λ x. r < x) rs
  pub rises : IsAbove at.last_border r

abbrev pub CornerDue : OpenProgress → Type 0
CornerDue at = (at.edges_due ≡ 0) × (0 < at.corners_due)

abbrev pub ReachDue : OpenProgress → Type 0
ReachDue at = (at.edges_due ≡ 0) × (at.corners_due ≡ 0) × (0 < at.reach_due)

abbrev pub BorderDue : OpenProgress → Type 0
BorderDue at = (at.edges_due ≡ 0) × (at.corners_due ≡ 0) × (at.reach_due ≡ 0) × (0 < at.borders_due)

-- All lines that are asked for came, and the border lines list as many rows as are listed as the only ones of their edges.
pub record IsDone (at : OpenProgress) : Type 0 where
  pub begun : at.begun ≡ true
  pub no_edge : at.edges_due ≡ 0
  pub no_corner : at.corners_due ≡ 0
  pub no_reach : at.reach_due ≡ 0
  pub no_border : at.borders_due ≡ 0
  pub all_bordered : length at.bordered ≡ length at.lone

-- The line fits, where END has not come.
abbrev pub FitsOpen : SolidData → OpenProgress → OpenLine → Type 0
FitsOpen s at head = ⊥
FitsOpen s at (shell n rows edges corners faces borders) = (at.begun ≡ false) × FitsShell s n rows edges corners faces
FitsOpen s at (edge a b) = (0 < at.edges_due) × FitsEdge (shell_of s) (shared at) a b × ListsAll (shell_of s) at 2
FitsOpen s at (lone a) = (0 < at.edges_due) × FitsLone (shell_of s) at a × ListsAll (shell_of s) at 1
FitsOpen s at (cycle []) = ⊥
FitsOpen s at (cycle (r ∷ rs)) = CornerDue at × FitsCorner (shell_of s) (shared at) r rs
FitsOpen s at (path []) = ⊥
FitsOpen s at (path (r ∷ rs)) = CornerDue at × FitsPath (shell_of s) at r rs
FitsOpen s at (point face l) = CornerDue at × FitsPoint (shell_of s) (shared at) face l
FitsOpen s at (reach r) = ReachDue at × FitsReach (shell_of s) (shared at) r
FitsOpen s at (border []) = ⊥
FitsOpen s at (border (r ∷ rs)) = BorderDue at × FitsBorder (shell_of s) at r rs
FitsOpen s at end = IsDone at

abbrev pub FitsLine : SolidData → OpenProgress → OpenLine → Type 0
FitsLine s at line = (at.ended ≡ false) × FitsOpen s at line
