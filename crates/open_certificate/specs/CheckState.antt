-- What a checker keeps of an open shell, in arrays, and when it is what the lines so far say.
use Rattle.std.specs.Prelude.{◌≡◌, ℕ, zero, suc, ◌+◌, ◌-◌, ◌*◌, ◌≤◌, ◌<◌, ◌^◌, ◌↔◌, min, Bool, true, false, List, [], ◌∷◌, length, map, Contains, Option, Some}
use Rattle.std.specs.Prelude.{None, IsSomeAnd, slice_get}
use Rattle.std.specs.Bool.{MatchBool}
use Rattle.solid_data.specs.SolidData.{SolidData}
use Rattle.solid_data.specs.declared.solid.LoopAt.{LoopAt}
use Rattle.edge_uses.specs.declared.row.Row.{Row}
use Rattle.edge_uses.specs.ShellRows.{ShellRows}
use Rattle.cert_text.specs.declared.fault.Illegal.{Illegal}
use Rattle.cert_state.specs.Progress.{row_named}
use Rattle.cert_state.specs.CheckState.{mate_in, HoldsMates, HoldsFaces, InFileOrder, corner_size, is_alone}
use Rattle.open_certificate.specs.Line.{OpenLine}
use Rattle.open_certificate.specs.Progress.{progress_from_latest, shell_of, FitsOpen, FitsLine}

-- a row, from 1, is marked in an array by row from 0
abbrev pub IsMarked : List Bool → ℕ → Type 0
IsMarked marks zero = ⊥
IsMarked marks (suc r) = slice_get marks r ≡ Some true

-- the array has these rows
abbrev pub HoldsRows : List Bool → List ℕ → Type 0
HoldsRows marks rows = (r : ℕ) → Contains rows r ↔ IsMarked marks r

-- the counts of a SHELL line are those of the shell
pub record AreCounts (d : ShellRows) (rows edges corners faces : ℕ) : Type 0 where
  pub rows_counted : rows ≡ length d.rows
  pub edges_counted : edges ≡ length d.edges
  pub corners_counted : corners ≡ length d.vertices
  pub faces_counted : faces ≡ d.face_count

-- Of a shell: its number, its rows, how many rows a corner line has that starts with a row, which loops without an edge are alone at their vertex, whether the
-- SHELL line came, the mate of each row, which rows are listed as the only ones of their edges and how many they are, which faces are reached, how many lines
-- of each kind are due, how many rows the edge lines and the border lines list, the last edge, the last vertex, and the first row of the last border line.
pub record OpenCheckState : Type 0 where
  pub entity : ℕ
  pub rows : ShellRows
  pub sizes : List ℕ
  pub alone : List Bool
  pub begun : Bool
  pub mates : List ℕ
  pub lone : List Bool
  pub lone_count : ℕ
  pub reached : List Bool
  pub edges_due : ℕ
  pub corners_due : ℕ
  pub reach_due : ℕ
  pub borders_due : ℕ
  pub listed : ℕ
  pub bordered : ℕ
  pub last_edge : Option ℕ
  pub last_vertex : Option ℕ
  pub last_border : Option ℕ

abbrev pub dues : OpenCheckState → ℕ
dues k = k.edges_due + k.corners_due + k.reach_due + k.borders_due

-- so many that counting goes no further
abbrev pub count_limit : ℕ
count_limit = 2 ^ 64 - 1

-- what is kept of a shell whatever the lines are
pub record IsCheckState (k : OpenCheckState) : Type 0 where
  pub sizes : k.sizes ≡ map (λ (r : Row). corner_size k.rows r.from.0) k.rows.rows
  pub alone : k.alone ≡ map (λ (p : LoopAt × ℕ). is_alone k.rows p.1) k.rows.points
  pub in_order : InFileOrder k.rows.points
  pub some_face : 0 < k.rows.face_count
  pub each_row : length k.mates ≡ length k.rows.rows
  pub each_lone : length k.lone ≡ length k.rows.rows
  pub each_face : length k.reached ≡ k.rows.face_count
  pub few_dues : dues k < 2 ^ 34
  pub few_listed : k.listed + 2 * k.edges_due < 2 ^ 36
  pub few_lone : k.lone_count + k.edges_due < 2 ^ 36
  pub unbegun : k.begun ≡ false → (dues k ≡ 0) × (k.listed ≡ 0) × (k.lone_count ≡ 0)
  -- a row that has a mate has no greater edge than the last one
  pub passed : (r m : ℕ) → mate_in k.mates r ≡ Some m → (row : Row) × (row_named k.rows r ≡ Some row) × IsSomeAnd k.last_edge (λ e. row.edge.0 ≤ e)

-- what is kept of the shell is what the lines say
pub record MatchesLines (s : SolidData) (lines : List OpenLine) (k : OpenCheckState) : Type 0 where
  pub entity : k.entity ≡ s.entity.0
  pub rows : k.rows ≡ shell_of s
  pub first : k.begun ≡ false → lines ≡ []
  pub begun : k.begun ≡ (progress_from_latest s lines).begun
  pub mates : HoldsMates k.mates (progress_from_latest s lines).mates
  pub lone : HoldsRows k.lone (progress_from_latest s lines).lone
  pub lone_count : k.lone_count ≡ length (progress_from_latest s lines).lone
  pub reached : HoldsFaces k.reached (progress_from_latest s lines).reached
  pub edges_due : k.edges_due ≡ (progress_from_latest s lines).edges_due
  pub corners_due : k.corners_due ≡ (progress_from_latest s lines).corners_due
  pub reach_due : k.reach_due ≡ (progress_from_latest s lines).reach_due
  pub borders_due : k.borders_due ≡ (progress_from_latest s lines).borders_due
  pub listed : k.listed ≡ (progress_from_latest s lines).listed
  pub bordered : k.bordered ≡ min (length (progress_from_latest s lines).bordered) count_limit
  pub last_edge : k.last_edge ≡ (progress_from_latest s lines).last_edge
  pub last_vertex : k.last_vertex ≡ (progress_from_latest s lines).last_vertex
  pub last_border : k.last_border ≡ (progress_from_latest s lines).last_border

-- After any lines that it speaks of, the line is taken exactly where it fits, and then what is kept speaks of the line too.
abbrev pub Takes : OpenCheckState → OpenCheckState → OpenLine → Bool → Type 0
Takes old new line taken =
    (s : SolidData) (lines : List OpenLine) → MatchesLines s lines old →
    MatchBool taken (FitsOpen s (progress_from_latest s lines) line × MatchesLines s (line ∷ lines) new) (¬ FitsOpen s (progress_from_latest s lines) line)

-- What a checker keeps: the solid, the fault that it found, the number of the next line, whether END came, and what it keeps of the shell.
pub record OpenCheckerState : Type 0 where
  pub solid : SolidData
  pub failed : Option Illegal
  pub number : ℕ
  pub ended : Bool
  pub shell : OpenCheckState

-- The checker has advanced past these lines, the latest first, which all fit.
pub record IsAt (c : OpenCheckerState) (lines : List OpenLine) : Type 0 where
  pub legal : c.failed ≡ None
  pub number : c.number ≡ (progress_from_latest c.solid lines).number
  pub ended : c.ended ≡ (progress_from_latest c.solid lines).ended
  pub shell : MatchesLines c.solid lines c.shell

-- What a checker keeps whatever the lines are, so that the line's number has room.
pub record HasRoom (c : OpenCheckerState) : Type 0 where
  pub few : c.number + dues c.shell ≤ 4 + 2 ^ 34
  pub unended : c.ended ≡ false → c.number + dues c.shell ≤ 3 + 2 ^ 34
  pub unbegun : c.shell.begun ≡ false → (c.number ≤ 2) × (dues c.shell ≡ 0)

-- After any lines that the checker has advanced past, the line is taken exactly where it fits, and then the checker has advanced past it too.
abbrev pub TakesLine : OpenCheckerState → OpenCheckerState → OpenLine → Bool → Type 0
TakesLine old new line taken =
    (lines : List OpenLine) → IsAt old lines →
    MatchBool taken (FitsLine old.solid (progress_from_latest old.solid lines) line × IsAt new (line ∷ lines))
    (¬ FitsLine old.solid (progress_from_latest old.solid lines) line)
