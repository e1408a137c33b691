-- How long a certificate is whose lines are legal for a solid.
use Rattle.std.proofs.Common.{◌≡◌, ℕ, suc, ◌+◌, ◌*◌, ◌<◌, ◌≤◌, Bool, true, false, cond, ltb, List, [], ◌∷◌, length, map, drop, Option, Some, None, refl, sym}
use Rattle.std.proofs.Common.{ap, ◌∙◌, arith, length-append}
use Rattle.std.specs.Prelude.{◌==◌, flat_map, count_by, filter_map}
use Rattle.std.specs.List.{cons_option}
use Rattle.std.proofs.lemmas.Bool.Decides.{nat_tests}
use Rattle.std.proofs.lemmas.List.{length-map}
use Rattle.solid_data.proofs.Members.{total, count_by-total, get_some, split_at}
use Rattle.solid_data.specs.SolidData.{SolidData, PlacedLoop, placed_loops, shell_uses}
use Rattle.solid_data.specs.declared.solid.LoopAt.{LoopAt}
use Rattle.solid_data.specs.declared.solid.LoopUse.{LoopUse}
use Rattle.solid_data.specs.declared.solid.LoopUse.TheVariants.{EdgeUse, VertexUse}
use Rattle.solid_data.specs.declared.solid.Shell.{Shell}
use Rattle.edge_uses.specs.declared.row.Row.{Row}
use Rattle.edge_uses.specs.ShellRows.{ShellRows, row_of, loop_rows, point_of, shell_rows, rows_of}
use Rattle.cert_text.specs.Text.{spaced}
use Rattle.cert_lines.specs.Line.{CertLine, head, solid, shell, edge, corner, point, reach, tally, end, spelling, HasSpelling, put_before, cut_lines}
use Rattle.cert_lines.specs.declared.counts.ShellCounts.{ShellCounts}
use Rattle.cert_lines.specs.declared.counts.TallyCounts.{TallyCounts}
use Rattle.cert_lines.specs.declared.version.Version.{Version}
use Rattle.cert_lines.specs.declared.version.Version.TheVariants.{One, Two, Three}
use Rattle.cert_state.specs.Progress.{Progress, NoneDue, progress_from_latest, tallies, row_edge, rows_of_shell, IsAbove, FitsShell, FitsEdge, FitsCorner}
use Rattle.cert_state.specs.Progress.{FitsPoint, FitsReach, FitsLine}
use Rattle.topo_certificate.specs.Legal.{IsLegal}
use Rattle.topo_certificate.specs.After.{IsLegalAfter}
use Rattle.cert_state.proofs.Short.{length-spaced}
use Rattle.topo_certificate.proofs.Forward.{legal_behind}
use Rattle.cert_state.proofs.Progressing.{edge_progress, corner_progress, point_progress, reach_progress, tally_progress, shell_progress, end_progress, first_progress}

-- ---- the bytes of a line

abbrev mark : Bool → ℕ
mark b = cond b 1 0

shell_long : (k : ℕ) (c : ShellCounts) → HasSpelling (shell k c) → length (spelling (shell k c)) ≤ 56
shell_long k c h =
    let ns : List ℕ = k ∷ c.rows ∷ c.edges ∷ c.corners ∷ c.faces ∷ [] in
    omega (arith, length-append (spaced ns) (10 ∷ []), length-spaced ns h)

edge_long : (a b : ℕ) → HasSpelling (edge a b) → length (spelling (edge a b)) ≤ 22
edge_long a b h =
    let ns : List ℕ = a ∷ b ∷ [] in
    omega (arith, length-append (spaced ns) (10 ∷ []), length-spaced ns (h.0, (h.1, tt)))

corner_long : (rs : List ℕ) → HasSpelling (corner rs) → length (spelling (corner rs)) ≤ 12 * length rs
corner_long rs h = omega (arith, length-append (spaced rs) (10 ∷ []), length-spaced rs h.0, h.1)

point_long : (face l : ℕ) → HasSpelling (point face l) → length (spelling (point face l)) ≤ 22
point_long face l h =
    let ns : List ℕ = face ∷ l ∷ [] in
    omega (arith, length-append (spaced ns) (10 ∷ []), length-spaced ns (h.0, (h.1, tt)))

reach_long : (r : ℕ) → HasSpelling (reach r) → length (spelling (reach r)) ≤ 12
reach_long r h = omega (arith, length-append (spaced (r ∷ [])) (10 ∷ []), length-spaced (r ∷ []) (h, tt))

tally_long : (t : TallyCounts) → HasSpelling (tally t) → length (spelling (tally t)) ≤ 46
tally_long t h =
    let ns : List ℕ = t.vertices ∷ t.edges ∷ t.faces ∷ t.loops ∷ [] in
    omega (arith, length-append (spaced ns) (10 ∷ []), length-spaced ns h)

-- ---- what lies above the last vertex

abbrev is_above : Option ℕ → ℕ → Bool
is_above None n = true
is_above (Some m) n = ltb m n

-- how many of a list have a number above the last
abbrev above : {A : Type 0} → (A → ℕ) → Option ℕ → List A → ℕ
above key last xs = total (λ x. mark (is_above last (key x))) xs

above_all : {A : Type 0} (key : A → ℕ) (xs : List A) → above key None xs ≡ length xs
above_all key [] = refl
above_all key (x ∷ xs) = omega (arith, above_all key xs)

-- one that has the number v, or one above it, is above the last, where v is
above_one : (last : Option ℕ) (v n : ℕ) → IsAbove last v → mark (n == v) + mark (is_above (Some v) n) ≤ mark (is_above last n)
above_one None v n h = grind (arith, nat_tests)
above_one (Some m) v n h = grind (arith, nat_tests)

above_less : {A : Type 0} (key : A → ℕ) (last : Option ℕ) (v : ℕ) (xs : List A) → IsAbove last v
    → count_by (λ x. key x == v) xs + above key (Some v) xs ≤ above key last xs
above_less {A} key last v xs h = omega (arith, count_by-total (λ (x : A). key x == v) xs, by_total xs)
  where
    by_total : (ys : List A) → total (λ (y : A). mark (key y == v)) ys + above key (Some v) ys ≤ above key last ys
    by_total [] = omega arith
    by_total (y ∷ ys) = omega (arith, above_one last v (key y) h, by_total ys)

-- ---- how many bytes lines may still take

abbrev row_start_of : Row → ℕ
row_start_of r = r.from.0

abbrev point_vertex : LoopAt × ℕ → ℕ
point_vertex p = p.1

-- the most bytes that the lines of a shell take: its SHELL and TALLY lines, its E and C lines by its rows, its I lines by its loops without an edge, and its R
-- lines by its faces
abbrev pub shell_room : ShellRows → ℕ
shell_room d = 102 + 23 * length d.rows + 22 * length d.points + 12 * d.face_count

abbrev pub shells_room : SolidData → List Shell → ℕ
shells_room s hs = total (λ (h : Shell). shell_room (shell_rows s h)) hs

-- the most bytes of the corner and point lines that may still come, since their vertices rise
abbrev corners_room : ShellRows → Option ℕ → ℕ
corners_room d last = 12 * above row_start_of last d.rows + 22 * above point_vertex last d.points

-- the bytes of END, where it has not come
abbrev end_room : Bool → ℕ
end_room ended = cond ended 0 4

-- the most bytes of the lines that may come at this progress
abbrev progress_room : SolidData → Progress → ℕ
progress_room s at = 22 * at.due.edges + corners_room (rows_of_shell s at.shell) at.last_vertex + 12 * at.due.reach + 46 * at.due.tally
    + shells_room s (drop at.shell s.shells) + end_room at.ended

abbrev Shortens : Version → SolidData → List CertLine → CertLine → Type 0
Shortens v s lines line = length (spelling line) + progress_room s (progress_from_latest v s (line ∷ lines)) ≤ progress_room s (progress_from_latest v s lines)

tallies_one : (v : Version) → tallies v ≤ 1
tallies_one One = omega arith
tallies_one Two = omega arith
tallies_one Three = omega arith

shell_shortens : (v : Version) (s : SolidData) (lines : List CertLine) (k : ℕ) (c : ShellCounts) → NoneDue (progress_from_latest v s lines).due
    × FitsShell s (progress_from_latest v s lines) k c → HasSpelling (shell k c) → Shortens v s lines (shell k c)
shell_shortens v s lines k c fits spelled =
    let at : Progress = progress_from_latest v s lines in
    let next : k ≡ at.shell + 1 = fits.1.next in
    let here = get_some s.shells at.shell (omega (arith, next, fits.1.there)) in
    let d : ShellRows = shell_rows s here.0 in
    let is : rows_of_shell s k ≡ d = ap (rows_of_shell s) (let e : k ≡ suc at.shell = omega (arith, next) in e) ∙ ap (rows_of s) here.1 in
    let rows : c.rows ≡ length d.rows = fits.1.rows_counted ∙ ap (λ (x : ShellRows). length x.rows) is in
    let faces : c.faces ≡ d.face_count = fits.1.faces_counted ∙ ap (λ (x : ShellRows). x.face_count) is in
    let now : corners_room (rows_of_shell s (at.shell + 1)) None ≡ corners_room d None =
    ap (λ (x : ShellRows). corners_room x None) (ap (rows_of_shell s) (sym next) ∙ is) in
    let after = ap (progress_room s) (shell_progress v s lines k c) in
    let left = ap (shells_room s) (split_at s.shells at.shell here.0 here.1) in
    omega (
      arith,
      after,
      left,
      now,
      rows,
      faces,
      fits.1.two_rows_each,
      above_all row_start_of d.rows,
      above_all point_vertex d.points,
      shell_long k c spelled,
      tallies_one v,
    )

edge_shortens : (v : Version) (s : SolidData) (lines : List CertLine) (a b : ℕ)
    → (let at : Progress = progress_from_latest v s lines in (0 < at.due.edges) × FitsEdge (rows_of_shell s at.shell) at a b) → HasSpelling (edge a b)
    → Shortens v s lines (edge a b)
edge_shortens v s lines a b fits spelled =
    let at : Progress = progress_from_latest v s lines in
    let after = ap (progress_room s) (edge_progress v s lines a b fits.1.along_row.edge.0 (ap row_edge fits.1.at_a)) in
    omega (arith, after, fits.0, edge_long a b spelled)

corner_shortens : (v : Version) (s : SolidData) (lines : List CertLine) (r : ℕ) (rs : List ℕ)
    → (let at : Progress = progress_from_latest v s lines in FitsCorner (rows_of_shell s at.shell) at r rs) → HasSpelling (corner (r ∷ rs))
    → Shortens v s lines (corner (r ∷ rs))
corner_shortens v s lines r rs fits spelled =
    let at : Progress = progress_from_latest v s lines in
    let d : ShellRows = rows_of_shell s at.shell in
    let after = ap (progress_room s) (corner_progress v s lines (r ∷ rs) fits.vertex fits.lies_at) in
    omega (
      arith,
      after,
      corner_long (r ∷ rs) spelled,
      fits.whole,
      above_less row_start_of at.last_vertex fits.vertex d.rows fits.rises,
      above_less point_vertex at.last_vertex fits.vertex d.points fits.rises,
    )

point_shortens : (v : Version) (s : SolidData) (lines : List CertLine) (face l : ℕ)
    → (let at : Progress = progress_from_latest v s lines in FitsPoint (rows_of_shell s at.shell) at face l) → HasSpelling (point face l)
    → Shortens v s lines (point face l)
point_shortens v s lines face l fits spelled =
    let at : Progress = progress_from_latest v s lines in
    let d : ShellRows = rows_of_shell s at.shell in
    let after = ap (progress_room s) (point_progress v s lines face l fits.vertex fits.lies_at) in
    omega (
      arith,
      after,
      point_long face l spelled,
      fits.one_point,
      above_less row_start_of at.last_vertex fits.vertex d.rows fits.rises,
      above_less point_vertex at.last_vertex fits.vertex d.points fits.rises,
    )

reach_shortens : (v : Version) (s : SolidData) (lines : List CertLine) (r : ℕ)
    → (let at : Progress = progress_from_latest v s lines in (0 < at.due.reach) × FitsReach (rows_of_shell s at.shell) at r) → HasSpelling (reach r)
    → Shortens v s lines (reach r)
reach_shortens v s lines r fits spelled =
    let after = ap (progress_room s) (reach_progress v s lines r fits.1.face fits.1.on_face) in
    omega (arith, after, fits.0, reach_long r spelled)

tally_shortens : (v : Version) (s : SolidData) (lines : List CertLine) (t : TallyCounts) → 0 < (progress_from_latest v s lines).due.tally → HasSpelling (tally t)
    → Shortens v s lines (tally t)
tally_shortens v s lines t due spelled =
    let after = ap (progress_room s) (tally_progress v s lines t) in
    omega (arith, after, due, tally_long t spelled)

end_shortens : (v : Version) (s : SolidData) (lines : List CertLine) → (progress_from_latest v s lines).ended ≡ false → Shortens v s lines end
end_shortens v s lines open_still =
    let after = ap (progress_room s) (end_progress v s lines) in
    let four = ap end_room open_still in
    omega (arith, after, four)

-- A line that fits takes no more bytes than those by which it shortens the lines that may come.
line_shortens : (v : Version) (s : SolidData) (lines : List CertLine) (line : CertLine) → FitsLine s (progress_from_latest v s lines) line → HasSpelling line
    → Shortens v s lines line
line_shortens v s lines (head w) fits spelled = absurd fits.1
line_shortens v s lines (solid n) fits spelled = absurd fits.1
line_shortens v s lines (shell k c) fits spelled = shell_shortens v s lines k c fits.1 spelled
line_shortens v s lines (edge a b) fits spelled = edge_shortens v s lines a b fits.1 spelled
line_shortens v s lines (corner []) fits spelled = absurd fits.1
line_shortens v s lines (corner (r ∷ rs)) fits spelled = corner_shortens v s lines r rs fits.1.1 spelled
line_shortens v s lines (point face l) fits spelled = point_shortens v s lines face l fits.1.1 spelled
line_shortens v s lines (reach r) fits spelled = reach_shortens v s lines r (fits.1.0.2, fits.1.1) spelled
line_shortens v s lines (tally t) fits spelled = tally_shortens v s lines t fits.1.0.3 spelled
line_shortens v s lines end fits spelled = end_shortens v s lines fits.0

-- ---- all lines

abbrev pub lines_long : List (List ℕ) → ℕ
lines_long lines = total (λ (l : List ℕ). length l) lines

lines_within : (v : Version) (s : SolidData) (before : List CertLine) (lines : List (List ℕ)) → IsLegalAfter v s before lines
    → lines_long lines ≤ progress_room s (progress_from_latest v s before)
lines_within v s before [] h = omega arith
lines_within v s before (bytes ∷ rest) (line, is, fits, more) =
    let long : length bytes ≡ length (spelling line) = ap length is.1.1 in
    omega (arith, long, line_shortens v s before line fits is.1.0, lines_within v s (line ∷ before) rest more)

-- Legal lines take no more bytes than the shells may.
pub legal_long : (v : Version) (s : SolidData) (lines : List (List ℕ)) → IsLegal v s lines → lines_long lines ≤ shells_room s s.shells + 4
legal_long v s lines legal =
    let first = ap (progress_room s) (first_progress v s) in
    omega (arith, first, lines_within v s [] lines (legal_behind v s lines legal))

-- ---- all shells

-- rows are no more than uses
row_few : (s : SolidData) (p : PlacedLoop) (uses : List LoopUse) → length (filter_map (row_of s p) uses) ≤ length uses
row_few s p [] = omega arith
row_few s p (u ∷ us) = by_row (row_of s p u) (row_few s p us)
  where
    by_row : (o : Option Row) → length (filter_map (row_of s p) us) ≤ length us → length (cons_option o (filter_map (row_of s p) us)) ≤ suc (length us)
    by_row None h = omega (arith, h)
    by_row (Some r) h = omega (arith, h)

-- a loop is a point only where a use of a vertex is no row
point_few : (p : PlacedLoop) (uses : List LoopUse) (edges : List ℕ) → length edges ≤ length uses → length edges + length (point_of p uses edges) ≤ length uses
point_few p (VertexUse vertex ∷ us) [] h = omega arith
point_few p (VertexUse vertex ∷ us) (e ∷ es) h = omega (arith, h)
point_few p (EdgeUse used along ∷ us) es h = omega (arith, h)
point_few p [] es h = omega (arith, h)

abbrev edge_numbers : List Row → List ℕ
edge_numbers rows = map (λ (r : Row). r.edge.0) rows

abbrev points_in : SolidData → PlacedLoop → List (LoopAt × ℕ)
points_in s p = point_of p p.loop.uses (edge_numbers (loop_rows s p))

loop_few : (s : SolidData) (p : PlacedLoop) → length (loop_rows s p) + length (points_in s p) ≤ length p.loop.uses
loop_few s p =
    let many : length (edge_numbers (loop_rows s p)) ≡ length (loop_rows s p) = length-map (loop_rows s p) (λ (r : Row). r.edge.0) in
    omega (arith, many, point_few p p.loop.uses (edge_numbers (loop_rows s p)) (omega (arith, many, row_few s p p.loop.uses)))

loops_few : (s : SolidData) (ps : List PlacedLoop) → length (flat_map (loop_rows s) ps) + length (flat_map (points_in s) ps)
    ≤ length (flat_map (λ (p : PlacedLoop). p.loop.uses) ps)
loops_few s [] = omega arith
loops_few s (p ∷ ps) =
    omega (
      arith,
      loop_few s p,
      loops_few s ps,
      length-append (loop_rows s p) (flat_map (loop_rows s) ps),
      length-append (points_in s p) (flat_map (points_in s) ps),
      length-append p.loop.uses (flat_map (λ (q : PlacedLoop). q.loop.uses) ps),
    )

shell_few : (s : SolidData) (h : Shell) → shell_room (shell_rows s h) ≤ 102 + 23 * length (shell_uses h) + 12 * length h.faces
unfolding shell_rows
shell_few s h = omega (arith, loops_few s (placed_loops h))

-- how many faces the shells have
abbrev pub face_total : List Shell → ℕ
face_total hs = length (flat_map (λ (h : Shell). h.faces) hs)

-- The shells take no more than this for each shell, use and face.
pub shells_few : (s : SolidData) (hs : List Shell) → shells_room s hs ≤ 102 * length hs + 23 * length (flat_map shell_uses hs) + 12 * face_total hs
shells_few s [] = omega arith
shells_few s (h ∷ hs) =
    omega (
      arith,
      shell_few s h,
      shells_few s hs,
      length-append (shell_uses h) (flat_map shell_uses hs),
      length-append h.faces (flat_map (λ (x : Shell). x.faces) hs),
    )

-- ---- the certificate as its lines

put_long : (b : ℕ) (lines : List (List ℕ)) → lines_long (put_before b lines) ≡ suc (lines_long lines)
put_long b [] = refl
put_long b (l ∷ ls) = omega arith

pub cut_long : (bytes : List ℕ) → lines_long (cut_lines bytes) ≡ length bytes
cut_long [] = refl
cut_long (b ∷ bs) = by_test (b == 10) (put_long b (cut_lines bs)) (cut_long bs)
  where
    by_test : (t : Bool) → lines_long (put_before b (cut_lines bs)) ≡ suc (lines_long (cut_lines bs)) → lines_long (cut_lines bs) ≡ length bs
        → lines_long (cond t ((b ∷ []) ∷ cut_lines bs) (put_before b (cut_lines bs))) ≡ suc (length bs)
    by_test true put rest = omega (arith, rest)
    by_test false put rest = omega (arith, put, rest)
