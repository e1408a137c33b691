-- It can be told whether lines of an open shell's certificate are legal, and which is the first bad one.
use Rattle.std.specs.Prelude.{◌≡◌, ℕ, zero, suc, ◌+◌, ◌<◌, ◌≤◌, ◌^◌, ◌⊎◌, Bool, true, false, List, [], ◌∷◌, ◌++◌, length, Contains, Option, Some, None}
use Rattle.std.specs.Prelude.{slice_get, decimal}
use Rattle.std.specs.List.{AllByRecursion}
use Rattle.std.proofs.Common.{refl, sym, ◌∙◌, ap, subst, arith, inl, inr, ⊎_elim, length-append}
use Rattle.std.proofs.lemmas.Option.{slice_get_within}
use Rattle.std.proofs.lemmas.Slice.Eq.{bytes_eq-Decides}
use Rattle.solid_data.specs.Ring.{next_of_each}
use Rattle.solid_data.specs.SolidData.{SolidData}
use Rattle.solid_data.specs.declared.solid.VertexId.{VertexId}
use Rattle.solid_data.proofs.Decisions.{Decided, decided_alike, decided_by, decided_same, decided_some, decided_pair, decided_below, decided_bool, decided_both}
use Rattle.solid_data.proofs.Decisions.{decided_three, decided_four, decided_either, decided_implies, decided_found, decided_bounded, decided_all, decided_zip}
use Rattle.solid_data.proofs.Decisions.{decided_contains, decided_list}
use Rattle.edge_uses.specs.declared.row.Row.{Row}
use Rattle.edge_uses.specs.ShellRows.{ShellRows}
use Rattle.edge_uses.specs.RowRelations.{point_count}
use Rattle.cert_text.specs.Text.{spaced, IsShort}
use Rattle.cert_lines.specs.Line.{edge as edge_line, corner as corner_line, point as point_line, reach as reach_line}
use Rattle.cert_text.specs.declared.fault.Illegal.{Illegal}
use Rattle.cert_text.specs.declared.fault.Illegal.TheVariants.{Misspelt, Unfit, Missing}
use Rattle.cert_state.specs.Progress.{Progress, row_named, row_start, start_count, IsAbove, IsMate, FollowsAsNamed, TurnsTo, FitsEdge, FitsCorner, FitsPoint}
use Rattle.cert_state.specs.Progress.{FitsReach}
use Rattle.cert_state.proofs.FitsDecided.{line_decided as closed_line_decided, above_decided, follows_decided, follows_below, turns_decided}
use Rattle.open_certificate.specs.Line.{OpenLine, head, shell, edge, lone, cycle, path, point, reach, border, end, spelling, numbers_of, HasRows, HasSpelling}
use Rattle.open_certificate.specs.Line.{IsSpelled, IsMisspelt}
use Rattle.open_certificate.specs.Progress.{OpenProgress, shell_of, shared, progress_from_latest, FitsShell, ListsAll, FitsLone, IsChain, last_of, FitsPath}
use Rattle.open_certificate.specs.Progress.{GoesOnTo}
use Rattle.open_certificate.specs.Progress.{FitsBorder, CornerDue, ReachDue, BorderDue, IsDone, FitsOpen, FitsLine}
use Rattle.open_certificate.specs.Legal.{IsLegalAfter, IsFirstBadAfter, IsOpenLegal, IsOpenFirstBad}
use Rattle.open_certificate.proofs.Spelling.{kind_of, prefix_of, line_from, rebuilt, spelling_parts}
use Rattle.cert_lines.proofs.Decided.{spaced_longer}

-- Spelling.

has_rows_decided : (l : OpenLine) → Decided (HasRows l)
has_rows_decided head = inl tt
has_rows_decided (shell n rows edges corners faces borders) = inl tt
has_rows_decided (edge a b) = inl tt
has_rows_decided (lone a) = inl tt
has_rows_decided (cycle rs) = decided_below 0 (length rs)
has_rows_decided (path rs) = decided_below 0 (length rs)
has_rows_decided (point face l) = inl tt
has_rows_decided (reach r) = inl tt
has_rows_decided (border rs) = decided_below 0 (length rs)
has_rows_decided end = inl tt

spelled_decided : (bytes : List ℕ) (l : OpenLine) → Decided (IsSpelled bytes l)
spelled_decided bytes l =
    decided_both (decided_both (decided_all IsShort (λ n. decided_below n (10 ^ 9)) (numbers_of l)) (has_rows_decided l))
    (decided_by _ (bytes_eq-Decides bytes (spelling l)))

kind_below : (l : OpenLine) → kind_of l < 9
kind_below head = omega arith
kind_below (shell n rows edges corners faces borders) = omega arith
kind_below (edge a b) = omega arith
kind_below (lone a) = omega arith
kind_below (cycle rs) = omega arith
kind_below (path rs) = omega arith
kind_below (point face l) = omega arith
kind_below (reach r) = omega arith
kind_below (border rs) = omega arith
kind_below end = omega arith

-- a line has no more numbers than bytes
few_numbers : (bytes : List ℕ) (l : OpenLine) → IsSpelled bytes l → length (numbers_of l) ≤ length bytes
few_numbers bytes l h =
    let front = prefix_of (kind_of l) in
    let numbers = spaced (numbers_of l) in
    omega (
      arith,
      ap (λ (x : List ℕ). length x) (h.1 ∙ spelling_parts l),
      length-append front (numbers ++ 10 ∷ []),
      length-append numbers (10 ∷ []),
      spaced_longer (numbers_of l),
    )

-- The bytes spell the line of this kind and some numbers, no more of them than bytes.
SpellsKind : List ℕ → ℕ → Type 0
SpellsKind bytes k = (ns : List ℕ) × (length ns ≤ length bytes) × AllByRecursion IsShort ns × IsSpelled bytes (line_from k ns)

-- A line is searched for by its kind and its numbers.
pub some_line_decided : (bytes : List ℕ) → Decided ((l : OpenLine) × IsSpelled bytes l)
unfolding SpellsKind
some_line_decided bytes =
    decided_alike (λ (k, lt, (ns, few, short, h)). (line_from k ns, h))
    (λ (l, h). (kind_of l, kind_below l, (numbers_of l, few_numbers bytes l h, h.0.0, subst (IsSpelled bytes) (sym (rebuilt l)) h)))
    (decided_bounded (SpellsKind bytes)
    (λ k. decided_list (λ ns. IsSpelled bytes (line_from k ns)) (λ ns. spelled_decided bytes (line_from k ns)) (10 ^ 9) (length bytes)) 9)

-- Lines that closed solids' certificates have too, by the decision on these.

-- the progress of such a certificate, at which so many lines are due
abbrev closed_at : OpenProgress → ℕ → ℕ → ℕ → Progress
closed_at at edges corners reach_lines =
    record {
      ended = false;
      shell = 1;
      due = record { edges = edges; corners = corners; reach = reach_lines; tally = 0 };
      mates = at.mates;
      last_edge =
          at.last_edge;
      last_vertex = at.last_vertex;
      reached = at.reached;
    }

edge_decided : (s : SolidData) (at : OpenProgress) (a b : ℕ) → Decided (FitsEdge (shell_of s) (shared at) a b)
edge_decided s at a b =
    decided_alike (λ (open_yet, (some, h)).
    record {
      along_row = h.along_row;
      against_row = h.against_row;
      at_a = h.at_a;
      at_b = h.at_b;
      one_edge = h.one_edge;
      along = h.along;
      against =
          h.against;
      rises = h.rises;
    })
    (λ h. (
      refl,
      (
        omega arith,
        record {
          along_row = h.along_row;
          against_row = h.against_row;
          at_a = h.at_a;
          at_b = h.at_b;
          one_edge = h.one_edge;
          along = h.along;
          against =
              h.against;
          rises = h.rises;
        },
      ),
    ))
    (closed_line_decided s (closed_at at 1 0 0) (edge_line a b))

corner_decided : (s : SolidData) (at : OpenProgress) (r : ℕ) (rs : List ℕ) → Decided (FitsCorner (shell_of s) (shared at) r rs)
corner_decided s at r rs =
    decided_alike (λ (open_yet, (some, h)).
    record { vertex = h.vertex; lies_at = h.lies_at; turns = h.turns; least = h.least; whole = h.whole; no_point = h.no_point; rises = h.rises })
    (λ h. (
      refl,
      (
        (refl, omega arith),
        record { vertex = h.vertex; lies_at = h.lies_at; turns = h.turns; least = h.least; whole = h.whole; no_point = h.no_point; rises = h.rises },
      ),
    ))
    (closed_line_decided s (closed_at at 0 1 0) (corner_line (r ∷ rs)))

point_decided : (s : SolidData) (at : OpenProgress) (face l : ℕ) → Decided (FitsPoint (shell_of s) (shared at) face l)
point_decided s at face l =
    decided_alike (λ (open_yet, (some, h)). record { vertex = h.vertex; lies_at = h.lies_at; no_row = h.no_row; one_point = h.one_point; rises = h.rises })
    (λ h. (refl, ((refl, omega arith), record { vertex = h.vertex; lies_at = h.lies_at; no_row = h.no_row; one_point = h.one_point; rises = h.rises })))
    (closed_line_decided s (closed_at at 0 1 0) (point_line face l))

reach_decided : (s : SolidData) (at : OpenProgress) (r : ℕ) → Decided (FitsReach (shell_of s) (shared at) r)
reach_decided s at r =
    decided_alike (λ (open_yet, (some, h)).
    record { mate = h.mate; face = h.face; known = h.known; mates = h.mates; on_face = h.on_face; on_known = h.on_known; new = h.new; old = h.old })
    (λ h. (
      refl,
      (
        (refl, refl, omega arith),
        record { mate = h.mate; face = h.face; known = h.known; mates = h.mates; on_face = h.on_face; on_known = h.on_known; new = h.new; old = h.old },
      ),
    ))
    (closed_line_decided s (closed_at at 0 0 1) (reach_line r))

-- Lines that only open shells' certificates have.

shell_decided : (s : SolidData) (n rows edges corners faces : ℕ) → Decided (FitsShell s n rows edges corners faces)
shell_decided s n rows edges corners faces =
    decided_alike (λ (names, r, (e, c, f)). record { names = names; rows_counted = r; edges_counted = e; corners_counted = c; faces_counted = f })
    (λ h. (h.names, h.rows_counted, (h.edges_counted, h.corners_counted, h.faces_counted)))
    (decided_three (decided_same n s.entity.0) (decided_same rows (length (shell_of s).rows))
    (decided_three (decided_same edges (length (shell_of s).edges)) (decided_same corners (length (shell_of s).vertices))
    (decided_same faces (shell_of s).face_count)))

lists_all_decided : (d : ShellRows) (at : OpenProgress) (more : ℕ) → Decided (ListsAll d at more)
lists_all_decided d at more = decided_implies (decided_same at.edges_due 1) (decided_same (at.listed + more) (length d.rows))

lone_decided : (d : ShellRows) (at : OpenProgress) (a : ℕ) → Decided (FitsLone d at a)
lone_decided d at a =
    decided_alike (λ (row, at_a, rises). record { row = row; at_a = at_a; rises = rises }) (λ h. (h.row, h.at_a, h.rises))
    (decided_found (row_named d a) (λ (row : Row). IsAbove at.last_edge row.edge.0) (λ row. above_decided at.last_edge row.edge.0))

mate_decided : (mates : List (ℕ × ℕ)) (r m : ℕ) → Decided (IsMate mates r m)
mate_decided mates r m = decided_either (decided_contains decided_pair mates (r, m)) (decided_contains decided_pair mates (m, r))

chain_decided : (R : ℕ → ℕ → Type 0) → ((r s : ℕ) → Decided (R r s)) → (r : ℕ) (rs : List ℕ) → Decided (IsChain R r rs)
chain_decided R each r [] = inl tt
chain_decided R each r (s ∷ rs) = decided_both (each r s) (chain_decided R each s rs)

-- what a fitting path line asks of its vertex
abbrev IsPathVertex : ShellRows → OpenProgress → ℕ → ℕ → Type 0
IsPathVertex d at n v = (n ≡ start_count d v) × (point_count d v ≡ 0) × IsAbove at.last_vertex v

path_decided : (d : ShellRows) (at : OpenProgress) (r : ℕ) (rs : List ℕ) → Decided (FitsPath d at r rs)
path_decided d at r rs =
    decided_alike (λ (turns, ends, (v, lies, (whole, none, rises))).
    record { vertex = v; lies_at = lies; turns = turns; ends = ends; whole = whole; no_point = none; rises = rises })
    (λ h. (h.turns, h.ends, (h.vertex, h.lies_at, (h.whole, h.no_point, h.rises))))
    (decided_three (chain_decided (TurnsTo d at.mates) (turns_decided d at.mates) r rs) (decided_contains decided_same at.lone (last_of r rs))
    (decided_found (row_start (row_named d r)) (IsPathVertex d at (length (r ∷ rs)))
    (λ v. decided_three (decided_same (length (r ∷ rs)) (start_count d v)) (decided_same (point_count d v) 0) (above_decided at.last_vertex v))))

vertex_id_decided : (a b : VertexId) → Decided (a ≡ b)
vertex_id_decided a b =
    decided_alike (λ e. (let same : ◌≡◌ {A = VertexId} (record { 0 = a.0 }) (record { 0 = b.0 }) = ap (λ (n : ℕ). record { 0 = n }) e in same))
    (λ e. ap (λ (x : VertexId). x.0) e) (decided_same a.0 b.0)

goes_on_decided : (d : ShellRows) (r s : ℕ) → Decided (GoesOnTo d r s)
goes_on_decided d r s =
    decided_alike (λ (a, at_a, (b, at_b, meet)). (a, b, at_a, at_b, meet)) (λ (a, b, at_a, at_b, meet). (a, at_a, (b, at_b, meet)))
    (decided_found (row_named d r) (λ (a : Row). (b : Row) × (row_named d s ≡ Some b) × (a.to ≡ b.from))
    (λ a. decided_found (row_named d s) (λ (b : Row). a.to ≡ b.from) (λ b. vertex_id_decided a.to b.from)))

border_decided : (d : ShellRows) (at : OpenProgress) (r : ℕ) (rs : List ℕ) → Decided (FitsBorder d at r rs)
border_decided d at r rs =
    decided_alike (λ (alone, goes, (least, rises)). record { lone = alone; goes_on = goes; least = least; rises = rises })
    (λ h. (h.lone, h.goes_on, (h.least, h.rises)))
    (decided_three (decided_all (Contains at.lone) (decided_contains decided_same at.lone) (r ∷ rs))
    (decided_zip (GoesOnTo d) (goes_on_decided d) (r ∷ rs) (next_of_each (r ∷ rs)))
    (decided_both (decided_all (λ x. r < x) (decided_below r) rs) (above_decided at.last_border r)))

-- What is due.

corner_due_decided : (at : OpenProgress) → Decided (CornerDue at)
corner_due_decided at = decided_both (decided_same at.edges_due 0) (decided_below 0 at.corners_due)

reach_due_decided : (at : OpenProgress) → Decided (ReachDue at)
reach_due_decided at = decided_three (decided_same at.edges_due 0) (decided_same at.corners_due 0) (decided_below 0 at.reach_due)

border_due_decided : (at : OpenProgress) → Decided (BorderDue at)
border_due_decided at = decided_four (decided_same at.edges_due 0) (decided_same at.corners_due 0) (decided_same at.reach_due 0)
    (decided_below 0 at.borders_due)

done_decided : (at : OpenProgress) → Decided (IsDone at)
done_decided at =
    decided_alike (λ ((begun, e, c), (r, b, all)). record { begun = begun; no_edge = e; no_corner = c; no_reach = r; no_border = b; all_bordered = all })
    (λ h. ((h.begun, h.no_edge, h.no_corner), (h.no_reach, h.no_border, h.all_bordered)))
    (decided_both (decided_three (decided_bool at.begun true) (decided_same at.edges_due 0) (decided_same at.corners_due 0))
    (decided_three (decided_same at.reach_due 0) (decided_same at.borders_due 0) (decided_same (length at.bordered) (length at.lone))))

-- Lines of all kinds.

open_decided : (s : SolidData) (at : OpenProgress) (l : OpenLine) → Decided (FitsOpen s at l)
open_decided s at head = inr (λ h. h)
open_decided s at (shell n rows edges corners faces borders) = decided_both (decided_bool at.begun false) (shell_decided s n rows edges corners faces)
open_decided s at (edge a b) = decided_three (decided_below 0 at.edges_due) (edge_decided s at a b) (lists_all_decided (shell_of s) at 2)
open_decided s at (lone a) = decided_three (decided_below 0 at.edges_due) (lone_decided (shell_of s) at a) (lists_all_decided (shell_of s) at 1)
open_decided s at (cycle []) = inr (λ h. h)
open_decided s at (cycle (r ∷ rs)) = decided_both (corner_due_decided at) (corner_decided s at r rs)
open_decided s at (path []) = inr (λ h. h)
open_decided s at (path (r ∷ rs)) = decided_both (corner_due_decided at) (path_decided (shell_of s) at r rs)
open_decided s at (point face l) = decided_both (corner_due_decided at) (point_decided s at face l)
open_decided s at (reach r) = decided_both (reach_due_decided at) (reach_decided s at r)
open_decided s at (border []) = inr (λ h. h)
open_decided s at (border (r ∷ rs)) = decided_both (border_due_decided at) (border_decided (shell_of s) at r rs)
open_decided s at end = done_decided at

line_decided : (s : SolidData) (at : OpenProgress) (l : OpenLine) → Decided (FitsLine s at l)
line_decided s at l = decided_both (decided_bool at.ended false) (open_decided s at l)

-- Behind lines before, the lines are legal or have a first bad one.
abbrev Answers : SolidData → List OpenLine → List (List ℕ) → Type 0
Answers s before lines = IsLegalAfter s before lines ⊎ ((bad : Illegal) × IsFirstBadAfter s before lines bad)

by_end : (s : SolidData) (before : List OpenLine) (b : Bool) → (progress_from_latest s before).ended ≡ b → Answers s before []
by_end s before true e = inl e
by_end s before false e = inr (Missing (progress_from_latest s before).number, (e, refl))

by_later : (s : SolidData) (before : List OpenLine) (bytes : List ℕ) (lines : List (List ℕ)) (l : OpenLine) → IsSpelled bytes l
    → FitsLine s (progress_from_latest s before) l → Answers s (l ∷ before) lines → Answers s before (bytes ∷ lines)
by_later s before bytes lines l is fits (inl legal) = inl (l, is, fits, legal)
by_later s before bytes lines l is fits (inr (bad, h)) = inr (bad, inr (l, is, fits, h))

legal_or_bad : (s : SolidData) (before : List OpenLine) (lines : List (List ℕ)) → Answers s before lines
legal_or_bad s before [] = by_end s before (progress_from_latest s before).ended refl
legal_or_bad s before (bytes ∷ lines) =
    ⊎_elim
    (λ (l, is). ⊎_elim (λ fits. by_later s before bytes lines l is fits (legal_or_bad s (l ∷ before) lines))
    (λ other. inr (Unfit (progress_from_latest s before).number, inl (inr ((l, is, other), refl)))) (line_decided s (progress_from_latest s before) l))
    (λ none. inr (Misspelt (progress_from_latest s before).number, inl (inl ((λ l h. none (l, h)), refl))))
    (some_line_decided bytes)

pub legal_or_first_bad : (s : SolidData) (lines : List (List ℕ)) → IsOpenLegal s lines ⊎ ((bad : Illegal) × IsOpenFirstBad s lines bad)
unfolding IsOpenLegal IsOpenFirstBad
legal_or_first_bad s lines = legal_or_bad s [] lines
