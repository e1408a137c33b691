-- The progress behind one more line.
use Rattle.std.specs.Prelude.{◌≡◌, ℕ, ◌+◌, ◌-◌, Bool, true, false, List, [], ◌∷◌, filter_map, Option, Some, None}
use Rattle.std.specs.List.{cons_option}
use Rattle.std.proofs.Common.{refl, ap, arith}
use Rattle.solid_data.specs.SolidData.{SolidData}
use Rattle.edge_uses.specs.ShellRows.{ShellRows}
use Rattle.cert_lines.specs.Line.{CertLine, shell, edge, corner, point, reach, tally, end}
use Rattle.cert_lines.specs.declared.counts.ShellCounts.{ShellCounts}
use Rattle.cert_lines.specs.declared.counts.TallyCounts.{TallyCounts}
use Rattle.cert_lines.specs.declared.version.Version.{Version}
use Rattle.cert_state.specs.Progress.{Progress, progress_from_latest, first_of, edge_of, vertex_of, face_of, since_shell, tallies, rows_of_shell, current_rows}
use Rattle.cert_state.specs.declared.due.Due.{Due}

abbrev pub due_of : ℕ → ℕ → ℕ → ℕ → Due
due_of e c r t = record { edges = e; corners = c; reach = r; tally = t }

-- what is due after one more line of a kind
abbrev pub without_edge : Due → Due
without_edge due = record due { edges = due.edges - 1 }

abbrev pub without_corner : Due → Due
without_corner due = record due { corners = due.corners - 1 }

abbrev pub without_reach : Due → Due
without_reach due = record due { reach = due.reach - 1 }

abbrev pub without_tally : Due → Due
without_tally due = record due { tally = due.tally - 1 }

abbrev pub progress_of : Bool → ℕ → Due → List (ℕ × ℕ) → Option ℕ → Option ℕ → List ℕ → Progress
progress_of b k d ms le lv fs = record { ended = b; shell = k; due = d; mates = ms; last_edge = le; last_vertex = lv; reached = fs }

same_progress : (k k2 e e2 c c2 r r2 t t2 : ℕ) (b : Bool) (ms : List (ℕ × ℕ)) (le le2 lv lv2 : Option ℕ) (fs fs2 : List ℕ) → k ≡ k2 → e ≡ e2 → c ≡ c2 → r ≡ r2
    → t ≡ t2 → le ≡ le2 → lv ≡ lv2 → fs ≡ fs2
    → progress_of b k (due_of e c r t) ms le lv fs ≡ progress_of b k2 (due_of e2 c2 r2 t2) ms le2 lv2 fs2
same_progress k k2 e e2 c c2 r r2 t t2 b ms le le2 lv lv2 fs fs2 hk he hc hr ht hle hlv hfs = cc

pub edge_progress : (v : Version) (s : SolidData) (lines : List CertLine) (a b e : ℕ) → edge_of (rows_of_shell s (progress_from_latest v s lines).shell) (edge a b)
    ≡ Some e
    → (let at : Progress = progress_from_latest v s lines in progress_from_latest v s (edge a b ∷ lines) ≡ progress_of at.ended at.shell (without_edge at.due)
    ((a, b) ∷ at.mates) (Some e) at.last_vertex at.reached)
unfolding progress_from_latest
edge_progress v s lines a b e h =
    let since : List CertLine = since_shell lines in
    let d : ShellRows = current_rows s lines in
    same_progress _ _ _ _ _ _ _ _ _ _ _ _ _ _ _ _ _ _ refl (omega arith) refl refl refl (ap (λ o. first_of (cons_option o (filter_map (edge_of d) since))) h) refl
    refl

pub corner_progress : (v : Version) (s : SolidData) (lines : List CertLine) (rs : List ℕ) (w : ℕ)
    → vertex_of (rows_of_shell s (progress_from_latest v s lines).shell) (corner rs) ≡ Some w
    → (let at : Progress = progress_from_latest v s lines in progress_from_latest v s (corner rs ∷ lines) ≡ progress_of at.ended at.shell (without_corner at.due) at.mates
    at.last_edge (Some w) at.reached)
unfolding progress_from_latest
corner_progress v s lines rs w h =
    let since : List CertLine = since_shell lines in
    let d : ShellRows = current_rows s lines in
    same_progress _ _ _ _ _ _ _ _ _ _ _ _ _ _ _ _ _ _ refl refl (omega arith) refl refl refl
    (ap (λ o. first_of (cons_option o (filter_map (vertex_of d) since))) h) refl

pub point_progress : (v : Version) (s : SolidData) (lines : List CertLine) (face place w : ℕ)
    → vertex_of (rows_of_shell s (progress_from_latest v s lines).shell) (point face place) ≡ Some w
    → (let at : Progress = progress_from_latest v s lines in progress_from_latest v s (point face place ∷ lines) ≡ progress_of at.ended at.shell (without_corner at.due)
    at.mates at.last_edge (Some w) at.reached)
unfolding progress_from_latest
point_progress v s lines face place w h =
    let since : List CertLine = since_shell lines in
    let d : ShellRows = current_rows s lines in
    same_progress _ _ _ _ _ _ _ _ _ _ _ _ _ _ _ _ _ _ refl refl (omega arith) refl refl refl
    (ap (λ o. first_of (cons_option o (filter_map (vertex_of d) since))) h) refl

-- the faces reached but the first
abbrev pub others_reached : SolidData → List CertLine → List ℕ
others_reached s lines = filter_map (face_of (current_rows s lines)) (since_shell lines)

pub reached_is : (v : Version) (s : SolidData) (lines : List CertLine) → (progress_from_latest v s lines).reached ≡ 0 ∷ others_reached s lines
unfolding progress_from_latest
reached_is v s lines = refl

pub reach_progress : (v : Version) (s : SolidData) (lines : List CertLine) (r f : ℕ) → face_of (rows_of_shell s (progress_from_latest v s lines).shell) (reach r)
    ≡ Some f
    → (let at : Progress = progress_from_latest v s lines in progress_from_latest v s (reach r ∷ lines) ≡ progress_of at.ended at.shell (without_reach at.due) at.mates
    at.last_edge at.last_vertex (0 ∷ f ∷ others_reached s lines))
unfolding progress_from_latest
reach_progress v s lines r f h =
    let since : List CertLine = since_shell lines in
    let d : ShellRows = current_rows s lines in
    same_progress _ _ _ _ _ _ _ _ _ _ _ _ _ _ _ _ _ _ refl refl refl (omega arith) refl refl refl (ap (λ o. 0 ∷ cons_option o (filter_map (face_of d) since)) h)

pub tally_progress : (v : Version) (s : SolidData) (lines : List CertLine) (t : TallyCounts)
    → (let at : Progress = progress_from_latest v s lines in progress_from_latest v s (tally t ∷ lines) ≡ progress_of at.ended at.shell (without_tally at.due) at.mates
    at.last_edge at.last_vertex at.reached)
unfolding progress_from_latest
tally_progress v s lines t =
    same_progress _ _ _ _ _ _ _ _ _ _ _ _ _ _ _ _ _ _ refl refl refl refl (omega arith) refl refl refl

pub shell_progress : (v : Version) (s : SolidData) (lines : List CertLine) (k : ℕ) (c : ShellCounts)
    → (let at : Progress = progress_from_latest v s lines in progress_from_latest v s (shell k c ∷ lines)
    ≡ progress_of at.ended (at.shell + 1) (due_of c.edges c.corners (c.faces - 1) (tallies v)) [] None None (0 ∷ []))
unfolding progress_from_latest
shell_progress v s lines k c =
    same_progress _ _ _ _ _ _ _ _ _ _ _ _ _ _ _ _ _ _ (omega arith) (omega arith) (omega arith) (omega arith) (omega arith) refl refl refl

pub end_progress : (v : Version) (s : SolidData) (lines : List CertLine)
    → (let at : Progress = progress_from_latest v s lines in progress_from_latest v s (end ∷ lines) ≡ progress_of true at.shell at.due at.mates at.last_edge at.last_vertex
    at.reached)
unfolding progress_from_latest
end_progress v s lines =
    same_progress _ _ _ _ _ _ _ _ _ _ _ _ _ _ _ _ _ _ refl refl refl refl refl refl refl refl

-- Behind no line nothing is due.
pub first_progress : (v : Version) (s : SolidData) → progress_from_latest v s [] ≡ progress_of false 0 (due_of 0 0 0 0) [] None None (0 ∷ [])
unfolding progress_from_latest
first_progress v s = same_progress _ _ _ _ _ _ _ _ _ _ _ _ _ _ _ _ _ _ refl (omega arith) (omega arith) (omega arith) (omega arith) refl refl refl
