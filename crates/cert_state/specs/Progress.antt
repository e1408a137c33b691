-- Where a certificate stands after some of its lines, and which line fits there. The lines are those after the head and the line of the solid.
use Rattle.std.specs.Prelude.{◌≡◌, ℕ, zero, suc, ◌+◌, ◌-◌, ◌*◌, ◌<◌, ◌==◌, ◌&&◌, ◌⊎◌, Bool, true, false, List, [], ◌∷◌, length, reverse, sum_by, filter_map}
use Rattle.std.specs.Prelude.{find, filter, count_by, Contains, Option, Some, None, slice_get, option_map, IfSome, if◌then◌else◌}
use Rattle.std.specs.List.{AllByRecursion, AllZip, list_any}
use Rattle.solid_data.specs.Ring.{next_of_each}
use Rattle.solid_data.specs.SolidData.{SolidData}
use Rattle.solid_data.specs.declared.solid.FaceUse.{FaceUse}
use Rattle.solid_data.specs.declared.solid.Shell.{Shell}
use Rattle.solid_data.specs.declared.solid.LoopAt.{LoopAt}
use Rattle.edge_uses.specs.declared.row.Row.{Row}
use Rattle.edge_uses.specs.ShellRows.{ShellRows, rows_of}
use Rattle.edge_uses.specs.RowRelations.{Follows, point_count}
use Rattle.cert_lines.specs.Line.{CertLine, head, solid, shell, edge, corner, point, reach, tally, end}
use Rattle.cert_lines.specs.declared.counts.ShellCounts.{ShellCounts}
use Rattle.cert_lines.specs.declared.counts.TallyCounts.{TallyCounts}
use Rattle.cert_lines.specs.declared.version.Version.{Version}
use Rattle.cert_state.specs.declared.due.Due.{Due}
use Rattle.cert_lines.specs.declared.version.Version.TheVariants.{One, Two, Three}

-- ---- the kinds of lines

abbrev pub is_shell : CertLine → Bool
is_shell (shell k counts) = true
is_shell _ = false

abbrev pub is_edge : CertLine → Bool
is_edge (edge a b) = true
is_edge _ = false

abbrev pub is_corner_or_point : CertLine → Bool
is_corner_or_point (corner rs) = true
is_corner_or_point (point face l) = true
is_corner_or_point _ = false

abbrev pub is_reach : CertLine → Bool
is_reach (reach r) = true
is_reach _ = false

abbrev pub is_tally : CertLine → Bool
is_tally (tally t) = true
is_tally _ = false

abbrev pub is_last : CertLine → Bool
is_last end = true
is_last _ = false

-- how many of the lines are of a kind
abbrev pub number_of : (CertLine → Bool) → List CertLine → ℕ
number_of kind lines = length (filter kind lines)

-- Of lines that are given the latest first: those after the last SHELL line.
abbrev pub since_shell : List CertLine → List CertLine
since_shell [] = []
since_shell (line ∷ lines) = if is_shell line then [] else line ∷ since_shell lines

-- ---- the lines that are due

-- how many TALLY lines end a shell
abbrev pub tallies : Version → ℕ
tallies One = 0
tallies Two = 1
tallies Three = 1

-- the lines that the last SHELL line asks for, or none where none has come
abbrev pub asked : Version → Option CertLine → Due
asked v (Some (shell k counts)) = record { edges = counts.edges; corners = counts.corners; reach = counts.faces - 1; tally = tallies v }
asked v _ = record { edges = 0; corners = 0; reach = 0; tally = 0 }

-- what is left of them after these lines
abbrev pub left_due : Due → List CertLine → Due
left_due a lines = record {
  edges = a.edges - number_of is_edge lines;
  corners = a.corners - number_of is_corner_or_point lines;
  reach = a.reach - number_of is_reach lines;
  tally = a.tally - number_of is_tally lines;
}

-- no line is due
pub record NoneDue (due : Due) : Type 0 where
  pub edges : due.edges ≡ 0
  pub corners : due.corners ≡ 0
  pub reach : due.reach ≡ 0
  pub tally : due.tally ≡ 0

-- The lines of a shell come kind by kind: a line of a kind is due only where none of the kinds before it is.
abbrev pub EdgeDue : Due → Type 0
EdgeDue due = 0 < due.edges

abbrev pub CornerDue : Due → Type 0
CornerDue due = (due.edges ≡ 0) × (0 < due.corners)

abbrev pub ReachDue : Due → Type 0
ReachDue due = (due.edges ≡ 0) × (due.corners ≡ 0) × (0 < due.reach)

abbrev pub TallyDue : Due → Type 0
TallyDue due = (due.edges ≡ 0) × (due.corners ≡ 0) × (due.reach ≡ 0) × (0 < due.tally)

-- ---- what a line names of a shell with these rows: in a line rows, faces and loops are numbered from 1

abbrev pub row_named : ShellRows → ℕ → Option Row
row_named d zero = None
row_named d (suc r) = slice_get d.rows r

-- the second of the rows so named follows the first
abbrev pub FollowsAsNamed : ShellRows → ℕ → ℕ → Type 0
FollowsAsNamed d (suc r) (suc s) = Follows d r s
FollowsAsNamed d _ _ = ⊥

-- the loop without an edge that is so named, and its vertex
abbrev pub point_named : ShellRows → ℕ → ℕ → Option (LoopAt × ℕ)
point_named d face l = find (λ (p : LoopAt × ℕ). (p.0.face.0 + 1 == face) && (p.0.place + 1 == l)) d.points

abbrev pub row_edge : Option Row → Option ℕ
row_edge row = option_map (λ (r : Row). r.edge.0) row

abbrev pub row_start : Option Row → Option ℕ
row_start row = option_map (λ (r : Row). r.from.0) row

abbrev pub row_face : Option Row → Option ℕ
row_face row = option_map (λ (r : Row). r.at.face.0) row

-- the two rows that an edge line names
abbrev pub mates_of : CertLine → Option (ℕ × ℕ)
mates_of (edge a b) = Some (a, b)
mates_of _ = None

-- the edge that an edge line is about, the vertex that a corner or point line is about, and the face that a reach line reaches
abbrev pub edge_of : ShellRows → CertLine → Option ℕ
edge_of d (edge a b) = row_edge (row_named d a)
edge_of d _ = None

abbrev pub vertex_of : ShellRows → CertLine → Option ℕ
vertex_of d (corner (r ∷ rs)) = row_start (row_named d r)
vertex_of d (point face l) = option_map (λ (p : LoopAt × ℕ). p.1) (point_named d face l)
vertex_of d _ = None

abbrev pub face_of : ShellRows → CertLine → Option ℕ
face_of d (reach r) = row_face (row_named d r)
face_of d _ = None

-- the rows of the shell with this number, from 1
abbrev pub rows_of_shell : SolidData → ℕ → ShellRows
rows_of_shell s zero = rows_of s None
rows_of_shell s (suc k) = rows_of s (slice_get s.shells k)

abbrev pub current_rows : SolidData → List CertLine → ShellRows
current_rows s lines = rows_of_shell s (number_of is_shell lines)

-- how many loops the shell with this number, from 1, has
abbrev pub loops_of : Option Shell → ℕ
loops_of None = 0
loops_of (Some h) = sum_by (λ (f : FaceUse). length f.loops) h.faces

abbrev pub loops_of_shell : SolidData → ℕ → ℕ
loops_of_shell s zero = 0
loops_of_shell s (suc k) = loops_of (slice_get s.shells k)

-- ---- the progress

pub record Progress : Type 0 where
  -- whether END has come
  pub ended : Bool
  -- how many shells have begun, the last of which is the shell at hand
  pub shell : ℕ
  -- the lines of this shell that are still due
  pub due : Due
  -- the pairs of its rows that edge lines have named
  pub mates : List (ℕ × ℕ)
  -- the edge of its last edge line
  pub last_edge : Option ℕ
  -- the vertex of its last corner or point line
  pub last_vertex : Option ℕ
  -- its faces that are reached, from 0: the first, and those of its reach lines
  pub reached : List ℕ

abbrev pub first_of : List ℕ → Option ℕ
first_of ns = slice_get ns 0

-- The progress after lines that are given the latest first. Each part is read off all of them: the first one found is the last in the certificate.
unfoldable pub progress_from_latest : Version → SolidData → List CertLine → Progress
progress_from_latest v s lines = record {
  ended = list_any is_last lines;
  shell = number_of is_shell lines;
  due = left_due (asked v (find is_shell lines)) (since_shell lines);
  mates = filter_map mates_of (since_shell lines);
  last_edge = first_of (filter_map (edge_of (current_rows s lines)) (since_shell lines));
  last_vertex = first_of (filter_map (vertex_of (current_rows s lines)) (since_shell lines));
  reached = 0 ∷ filter_map (face_of (current_rows s lines)) (since_shell lines);
}

-- the progress after these lines, in the order of the certificate
abbrev pub progress_after : Version → SolidData → List CertLine → Progress
progress_after v s lines = progress_from_latest v s (reverse lines)

-- ---- which line fits

-- above the last one, if there is one
abbrev pub IsAbove : Option ℕ → ℕ → Type 0
IsAbove last n = IfSome last (λ m. m < n)

-- an edge line has named the two rows
abbrev pub IsMate : List (ℕ × ℕ) → ℕ → ℕ → Type 0
IsMate mates r m = Contains mates (r, m) ⊎ Contains mates (m, r)

-- s follows the mate of r
abbrev pub TurnsTo : ShellRows → List (ℕ × ℕ) → ℕ → ℕ → Type 0
TurnsTo d mates r s = (m : ℕ) × IsMate mates r m × FollowsAsNamed d m s

-- how many rows start at a vertex
abbrev pub start_count : ShellRows → ℕ → ℕ
start_count d v = count_by (λ (r : Row). r.from.0 == v) d.rows

-- the number is that of the next shell, and the counts are those of its rows
pub record FitsShell (s : SolidData) (at : Progress) (k : ℕ) (counts : ShellCounts) : Type 0 where
  pub next : k ≡ at.shell + 1
  pub there : k < length s.shells + 1
  pub rows_counted : counts.rows ≡ length (rows_of_shell s k).rows
  pub edges_counted : counts.edges ≡ length (rows_of_shell s k).edges
  pub corners_counted : counts.corners ≡ length (rows_of_shell s k).vertices
  pub faces_counted : counts.faces ≡ (rows_of_shell s k).face_count
  pub two_rows_each : 2 * counts.edges ≡ counts.rows

-- two rows of one edge, the first along it and the other against it, and a greater edge than the one before
pub record FitsEdge (d : ShellRows) (at : Progress) (a b : ℕ) : Type 0 where
  pub along_row : Row
  pub against_row : Row
  pub at_a : row_named d a ≡ Some along_row
  pub at_b : row_named d b ≡ Some against_row
  pub one_edge : along_row.edge ≡ against_row.edge
  pub along : along_row.along ≡ true
  pub against : against_row.along ≡ false
  pub rises : IsAbove at.last_edge along_row.edge.0

-- the rows that start at a vertex, from the least one on, each turned to the next and the last to the first
pub record FitsCorner (d : ShellRows) (at : Progress) (r : ℕ) (rs : List ℕ) : Type 0 where
  pub vertex : ℕ
  pub lies_at : row_start (row_named d r) ≡ Some vertex
  pub turns : AllZip (TurnsTo d at.mates) (r ∷ rs) (next_of_each (r ∷ rs))
  pub least : AllByRecursion (λ x. r < x) rs
  pub whole : length (r ∷ rs) ≡ start_count d vertex
  pub no_point : point_count d vertex ≡ 0
  pub rises : IsAbove at.last_vertex vertex

-- the only loop without an edge at a vertex where no row starts
pub record FitsPoint (d : ShellRows) (at : Progress) (face l : ℕ) : Type 0 where
  pub vertex : ℕ
  pub lies_at : option_map (λ (p : LoopAt × ℕ). p.1) (point_named d face l) ≡ Some vertex
  pub no_row : start_count d vertex ≡ 0
  pub one_point : point_count d vertex ≡ 1
  pub rises : IsAbove at.last_vertex vertex

-- a row of a new face, whose mate's face is reached
pub record FitsReach (d : ShellRows) (at : Progress) (r : ℕ) : Type 0 where
  pub mate : ℕ
  pub face : ℕ
  pub known : ℕ
  pub mates : IsMate at.mates r mate
  pub on_face : row_face (row_named d r) ≡ Some face
  pub on_known : row_face (row_named d mate) ≡ Some known
  pub new : ¬ Contains at.reached face
  pub old : Contains at.reached known

-- the counts are those of the shell with this number
pub record FitsTally (s : SolidData) (k : ℕ) (t : TallyCounts) : Type 0 where
  pub vertices_counted : t.vertices ≡ length (rows_of_shell s k).vertices
  pub edges_counted : t.edges ≡ length (rows_of_shell s k).edges
  pub faces_counted : t.faces ≡ (rows_of_shell s k).face_count
  pub loops_counted : t.loops ≡ loops_of_shell s k

-- The line is of a kind that is due, and fits, where END has not come.
abbrev pub FitsOpen : SolidData → Progress → CertLine → Type 0
FitsOpen s at (head v) = ⊥
FitsOpen s at (solid n) = ⊥
FitsOpen s at (shell k counts) = NoneDue at.due × FitsShell s at k counts
FitsOpen s at (edge a b) = EdgeDue at.due × FitsEdge (rows_of_shell s at.shell) at a b
FitsOpen s at (corner []) = ⊥
FitsOpen s at (corner (r ∷ rs)) = CornerDue at.due × FitsCorner (rows_of_shell s at.shell) at r rs
FitsOpen s at (point face l) = CornerDue at.due × FitsPoint (rows_of_shell s at.shell) at face l
FitsOpen s at (reach r) = ReachDue at.due × FitsReach (rows_of_shell s at.shell) at r
FitsOpen s at (tally t) = TallyDue at.due × FitsTally s at.shell t
FitsOpen s at end = NoneDue at.due × (at.shell ≡ length s.shells)

-- The line fits after the lines so far.
abbrev pub FitsLine : SolidData → Progress → CertLine → Type 0
FitsLine s at line = (at.ended ≡ false) × FitsOpen s at line
