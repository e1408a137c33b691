-- The lines of parts fit.
use Rattle.std.specs.Prelude.{◌≡◌, ℕ, suc, ◌+◌, ◌-◌, ◌*◌, ◌<◌, ◌≤◌, cond, true, false, List, [], ◌∷◌, ◌++◌, length, map, filter, filter_map, flat_map, find}
use Rattle.std.specs.Prelude.{Contains, Some, None, option_map}
use Rattle.std.specs.List.{AllByRecursion, AllZip, cons_option, list_any}
use Rattle.std.proofs.Common.{refl, sym, ◌∙◌, ap, subst, arith}
use Rattle.solid_data.specs.Ring.{next_of_each}
use Rattle.solid_data.specs.SolidData.{SolidData}
use Rattle.solid_data.specs.declared.solid.LoopAt.{LoopAt}
use Rattle.solid_data.specs.declared.solid.RowId.{RowId}
use Rattle.solid_data.proofs.Members.{Has, Has-from_Contains, Contains-from_Has}
use Rattle.edge_uses.specs.declared.row.Row.{Row}
use Rattle.edge_uses.specs.RowRelations.{point_count}
use Rattle.cert_lines.specs.Written.{row_number}
use Rattle.cert_state.specs.Progress.{IsAbove, first_of, row_named, row_edge, row_start, row_face, point_named, start_count, IsMate, TurnsTo}
use Rattle.open_certificate.specs.Line.{OpenLine, shell, edge, lone, cycle, path, point, reach, border, end, spelling, HasSpelling}
use Rattle.open_certificate.specs.Progress.{progress_from_latest, shell_of, is_shell, is_edge, is_corner, is_reach, is_border, is_last, number_of, asked}
use Rattle.open_certificate.specs.Progress.{mates_in}
use Rattle.open_certificate.specs.Progress.{lone_in, edge_in, vertex_in, face_in, border_in, border_rows, FitsLine, IsChain, last_of, GoesOnTo}
use Rattle.open_certificate.specs.Legal.{IsLegalAfter}
use Rattle.open_certificate.specs.Written.{edge_line}
use Rattle.shell_reach.specs.Reaching.{row_numbers}
use Rattle.open_certificate.specs.declared.parts.OpenEdge.TheVariants.{Two}

-- Behind the lines before, the latest first: each line is spelled and fits, and the last is END.
abbrev pub Follow : SolidData → List OpenLine → List OpenLine → Type 0
Follow s before [] = (progress_from_latest s before).ended ≡ true
Follow s before (l ∷ ls) = HasSpelling l × FitsLine s (progress_from_latest s before) l × Follow s (l ∷ before) ls

pub follow_legal : (s : SolidData) (before ls : List OpenLine) → Follow s before ls → IsLegalAfter s before (map spelling ls)
follow_legal s before [] h = h
follow_legal s before (l ∷ ls) h = (l, (h.0, refl), h.1, follow_legal s (l ∷ before) ls h.2)

pub follow_spelled : (s : SolidData) (before ls : List OpenLine) → Follow s before ls → AllByRecursion HasSpelling ls
follow_spelled s before [] h = tt
follow_spelled s before (l ∷ ls) h = (h.0, follow_spelled s (l ∷ before) ls h.2)

-- a row's number, from 1
pub one_more : (r : RowId) → suc r.0 ≡ row_number r
one_more r = omega arith

pub named_rows : (rows : List RowId) → map suc (row_numbers rows) ≡ map row_number rows
named_rows [] = refl
named_rows (r ∷ rows) = ap (λ n. n ∷ map suc (row_numbers rows)) (one_more r) ∙ ap (λ ns. row_number r ∷ ns) (named_rows rows)

pub edge_named : (p q : RowId) → edge (suc p.0) (suc q.0) ≡ edge_line (Two p q)
edge_named p q = ap (λ n. edge n (suc q.0)) (one_more p) ∙ ap (edge (row_number p)) (one_more q)

-- how far the lines have come: the edges, vertices, faces and first border rows they name, the latest first, the mates, the only rows of edges, and the
-- bordered rows
pub record Stage (s : SolidData) (lines : List OpenLine) (b : ℕ) (es vs fs bs : List ℕ) (ms : List (ℕ × ℕ)) (ls rows : List ℕ) : Type 0 where
  pub begun : list_any is_last lines ≡ false
  pub shown : list_any is_shell lines ≡ true
  pub asks : asked (find is_shell lines) ≡ (length (shell_of s).edges, length (shell_of s).vertices, (shell_of s).face_count - 1, b)
  pub edges : filter_map (edge_in (shell_of s)) lines ≡ es
  pub edge_count : number_of is_edge lines ≡ length es
  pub mated : filter_map mates_in lines ≡ ms
  pub alone : filter_map lone_in lines ≡ ls
  pub vertices : filter_map (vertex_in (shell_of s)) lines ≡ vs
  pub corner_count : number_of is_corner lines ≡ length vs
  pub faces : filter_map (face_in (shell_of s)) lines ≡ fs
  pub reach_count : number_of is_reach lines ≡ length fs
  pub firsts : filter_map border_in lines ≡ bs
  pub border_count : number_of is_border lines ≡ length bs
  pub rows_in : flat_map border_rows lines ≡ rows

module _ (s : SolidData) (lines : List OpenLine) (b : ℕ) (es vs fs bs : List ℕ) (ms : List (ℕ × ℕ)) (ls rows : List ℕ)
    (stage : Stage s lines b es vs fs bs ms ls rows) where
  pub edges_left : (progress_from_latest s lines).edges_due ≡ length (shell_of s).edges - length es
  unfolding progress_from_latest
  edges_left = ap (λ (a : ℕ × ℕ × ℕ × ℕ). a.0 - number_of is_edge lines) stage.asks ∙ ap (λ n. length (shell_of s).edges - n) stage.edge_count

  pub corners_left : (progress_from_latest s lines).corners_due ≡ length (shell_of s).vertices - length vs
  unfolding progress_from_latest
  corners_left = ap (λ (a : ℕ × ℕ × ℕ × ℕ). a.1 - number_of is_corner lines) stage.asks ∙ ap (λ n. length (shell_of s).vertices - n) stage.corner_count

  pub reach_left : (progress_from_latest s lines).reach_due ≡ (shell_of s).face_count - 1 - length fs
  unfolding progress_from_latest
  reach_left = ap (λ (a : ℕ × ℕ × ℕ × ℕ). a.2 - number_of is_reach lines) stage.asks ∙ ap (λ n. (shell_of s).face_count - 1 - n) stage.reach_count

  pub borders_left : (progress_from_latest s lines).borders_due ≡ b - length bs
  unfolding progress_from_latest
  borders_left = ap (λ (a : ℕ × ℕ × ℕ × ℕ). a.3 - number_of is_border lines) stage.asks ∙ ap (λ n. b - n) stage.border_count

  pub edge_before : (progress_from_latest s lines).last_edge ≡ first_of es
  unfolding progress_from_latest
  edge_before = ap first_of stage.edges

  pub vertex_before : (progress_from_latest s lines).last_vertex ≡ first_of vs
  unfolding progress_from_latest
  vertex_before = ap first_of stage.vertices

  pub reached_before : (progress_from_latest s lines).reached ≡ 0 ∷ fs
  unfolding progress_from_latest
  reached_before = ap (λ xs. 0 ∷ xs) stage.faces

  pub border_before : (progress_from_latest s lines).last_border ≡ first_of bs
  unfolding progress_from_latest
  border_before = ap first_of stage.firsts

  pub mates_before : (progress_from_latest s lines).mates ≡ ms
  unfolding progress_from_latest
  mates_before = stage.mated

  pub lone_before : (progress_from_latest s lines).lone ≡ ls
  unfolding progress_from_latest
  lone_before = stage.alone

  pub bordered_before : (progress_from_latest s lines).bordered ≡ rows
  unfolding progress_from_latest
  bordered_before = stage.rows_in

  pub listed_before : (progress_from_latest s lines).listed ≡ 2 * length ms + length ls
  unfolding progress_from_latest
  listed_before = ap (λ xs. 2 * length xs + length (filter_map lone_in lines)) stage.mated ∙ ap (λ ys. 2 * length ms + length ys) stage.alone

  pub not_ended : (progress_from_latest s lines).ended ≡ false
  unfolding progress_from_latest
  not_ended = stage.begun

  pub shell_shown : (progress_from_latest s lines).begun ≡ true
  unfolding progress_from_latest
  shell_shown = stage.shown

  -- a line for an edge with two rows
  pub edge_fits : (a c e : ℕ) (x y : Row) → length es < length (shell_of s).edges → row_named (shell_of s) a ≡ Some x → row_named (shell_of s) c ≡ Some y
      → x.edge.0 ≡ e → x.edge ≡ y.edge → x.along ≡ true → y.along ≡ false → IsAbove (first_of es) e
      → (length (shell_of s).edges ≡ suc (length es) → 2 * length ms + length ls + 2 ≡ length (shell_of s).rows)
      → FitsLine s (progress_from_latest s lines) (edge a c)
  edge_fits a c e x y left at_a at_c is_e same along against above last = (
    not_ended,
    (
      omega (arith, left, edges_left),
      record {
        along_row = x;
        against_row = y;
        at_a = at_a;
        at_b = at_c;
        one_edge = same;
        along = along;
        against = against;
        rises =
            subst (λ o. IsAbove o x.edge.0) (sym edge_before) (subst (λ n. IsAbove (first_of es) n) (sym is_e) above);
      },
      λ due. let l = last (omega (arith, due, left, edges_left)) in omega (arith, l, listed_before),
    ),
  )

  pub edge_stage : (a c e : ℕ) (x : Row) → row_named (shell_of s) a ≡ Some x → x.edge.0 ≡ e
      → Stage s (edge a c ∷ lines) b (e ∷ es) vs fs bs ((a, c) ∷ ms) ls rows
  edge_stage a c e x at_a is_e = record {
    begun = stage.begun;
    shown = stage.shown;
    asks = stage.asks;
    edges = ap (λ o. cons_option o (filter_map (edge_in (shell_of s)) lines)) (ap row_edge at_a ∙ ap Some is_e) ∙ ap (λ xs. e ∷ xs) stage.edges;
    edge_count = ap suc stage.edge_count;
    mated = ap (λ xs. (a, c) ∷ xs) stage.mated;
    alone = stage.alone;
    vertices = stage.vertices;
    corner_count = stage.corner_count;
    faces = stage.faces;
    reach_count = stage.reach_count;
    firsts = stage.firsts;
    border_count = stage.border_count;
    rows_in = stage.rows_in;
  }

  -- a line for an edge with one row
  pub lone_fits : (a e : ℕ) (x : Row) → length es < length (shell_of s).edges → row_named (shell_of s) a ≡ Some x → x.edge.0 ≡ e → IsAbove (first_of es) e
      → (length (shell_of s).edges ≡ suc (length es) → 2 * length ms + length ls + 1 ≡ length (shell_of s).rows)
      → FitsLine s (progress_from_latest s lines) (lone a)
  lone_fits a e x left at_a is_e above last = (
    not_ended,
    (
      omega (arith, left, edges_left),
      record { row = x; at_a = at_a; rises = subst (λ o. IsAbove o x.edge.0) (sym edge_before) (subst (λ n. IsAbove (first_of es) n) (sym is_e) above) },
      λ due. let l = last (omega (arith, due, left, edges_left)) in omega (arith, l, listed_before),
    ),
  )

  pub lone_stage : (a e : ℕ) (x : Row) → row_named (shell_of s) a ≡ Some x → x.edge.0 ≡ e → Stage s (lone a ∷ lines) b (e ∷ es) vs fs bs ms (a ∷ ls) rows
  lone_stage a e x at_a is_e = record {
    begun = stage.begun;
    shown = stage.shown;
    asks = stage.asks;
    edges = ap (λ o. cons_option o (filter_map (edge_in (shell_of s)) lines)) (ap row_edge at_a ∙ ap Some is_e) ∙ ap (λ xs. e ∷ xs) stage.edges;
    edge_count = ap suc stage.edge_count;
    mated = stage.mated;
    alone = ap (λ xs. a ∷ xs) stage.alone;
    vertices = stage.vertices;
    corner_count = stage.corner_count;
    faces = stage.faces;
    reach_count = stage.reach_count;
    firsts = stage.firsts;
    border_count = stage.border_count;
    rows_in = stage.rows_in;
  }

  -- a line for a vertex
  pub cycle_fits : (v r : ℕ) (rs : List ℕ) → length (shell_of s).edges ≤ length es → length vs < length (shell_of s).vertices
      → row_start (row_named (shell_of s) r) ≡ Some v → AllZip (TurnsTo (shell_of s) ms) (r ∷ rs) (next_of_each (r ∷ rs)) → AllByRecursion (λ x. r < x) rs
      → length (r ∷ rs) ≡ start_count (shell_of s) v → point_count (shell_of s) v ≡ 0 → IsAbove (first_of vs) v
      → FitsLine s (progress_from_latest s lines) (cycle (r ∷ rs))
  cycle_fits v r rs edges_done left starts turns least whole no_point above = (
    not_ended,
    (
      (omega (arith, edges_done, edges_left), omega (arith, left, corners_left)),
      record {
        vertex = v;
        lies_at = starts;
        turns = subst (λ m. AllZip (TurnsTo (shell_of s) m) (r ∷ rs) (next_of_each (r ∷ rs))) (sym mates_before) turns;
        least = least;
        whole = whole;
        no_point = no_point;
        rises = subst (λ o. IsAbove o v) (sym vertex_before) above;
      },
    ),
  )

  pub path_fits : (v r : ℕ) (rs : List ℕ) → length (shell_of s).edges ≤ length es → length vs < length (shell_of s).vertices
      → row_start (row_named (shell_of s) r) ≡ Some v → IsChain (TurnsTo (shell_of s) ms) r rs → Contains ls (last_of r rs)
      → length (r ∷ rs) ≡ start_count (shell_of s) v → point_count (shell_of s) v ≡ 0 → IsAbove (first_of vs) v
      → FitsLine s (progress_from_latest s lines) (path (r ∷ rs))
  path_fits v r rs edges_done left starts turns ends whole no_point above = (
    not_ended,
    (
      (omega (arith, edges_done, edges_left), omega (arith, left, corners_left)),
      record {
        vertex = v;
        lies_at = starts;
        turns = subst (λ m. IsChain (TurnsTo (shell_of s) m) r rs) (sym mates_before) turns;
        ends =
            subst (λ m. Contains m (last_of r rs)) (sym lone_before) ends;
        whole = whole;
        no_point = no_point;
        rises =
            subst (λ o. IsAbove o v) (sym vertex_before) above;
      },
    ),
  )

  pub point_fits : (v face l : ℕ) → length (shell_of s).edges ≤ length es → length vs < length (shell_of s).vertices
      → option_map (λ (p : LoopAt × ℕ). p.1) (point_named (shell_of s) face l) ≡ Some v → start_count (shell_of s) v ≡ 0 → point_count (shell_of s) v ≡ 1
      → IsAbove (first_of vs) v
      → FitsLine s (progress_from_latest s lines) (point face l)
  point_fits v face l edges_done left lies no_row one above = (
    not_ended,
    (
      (omega (arith, edges_done, edges_left), omega (arith, left, corners_left)),
      record { vertex = v; lies_at = lies; no_row = no_row; one_point = one; rises = subst (λ o. IsAbove o v) (sym vertex_before) above },
    ),
  )

  -- a line of a vertex adds it
  pub corner_stage : (line : OpenLine) (v : ℕ) → ((xs : List OpenLine) → list_any is_last (line ∷ xs) ≡ list_any is_last xs)
      → ((xs : List OpenLine) → list_any is_shell (line ∷ xs) ≡ list_any is_shell xs) → ((xs : List OpenLine) → find is_shell (line ∷ xs) ≡ find is_shell xs)
      → edge_in (shell_of s) line ≡ None → is_edge line ≡ false → mates_in line ≡ None → lone_in line ≡ None → vertex_in (shell_of s) line ≡ Some v
      → is_corner line ≡ true → face_in (shell_of s) line ≡ None → is_reach line ≡ false → border_in line ≡ None → is_border line ≡ false
      → border_rows line ≡ []
      → Stage s (line ∷ lines) b es (v ∷ vs) fs bs ms ls rows
  corner_stage line v h0 h1 h2 h3 h4 h5 h6 h7 h8 h9 h10 h11 h12 h13 = record {
    begun = h0 lines ∙ stage.begun;
    shown = h1 lines ∙ stage.shown;
    asks = ap asked (h2 lines) ∙ stage.asks;
    edges = ap (λ o. cons_option o (filter_map (edge_in (shell_of s)) lines)) h3 ∙ stage.edges;
    edge_count = ap (λ t. length (cond t (line ∷ filter is_edge lines) (filter is_edge lines))) h4 ∙ stage.edge_count;
    mated = ap (λ o. cons_option o (filter_map mates_in lines)) h5 ∙ stage.mated;
    alone = ap (λ o. cons_option o (filter_map lone_in lines)) h6 ∙ stage.alone;
    vertices = ap (λ o. cons_option o (filter_map (vertex_in (shell_of s)) lines)) h7 ∙ ap (λ xs. v ∷ xs) stage.vertices;
    corner_count = ap (λ t. length (cond t (line ∷ filter is_corner lines) (filter is_corner lines))) h8 ∙ ap suc stage.corner_count;
    faces = ap (λ o. cons_option o (filter_map (face_in (shell_of s)) lines)) h9 ∙ stage.faces;
    reach_count = ap (λ t. length (cond t (line ∷ filter is_reach lines) (filter is_reach lines))) h10 ∙ stage.reach_count;
    firsts = ap (λ o. cons_option o (filter_map border_in lines)) h11 ∙ stage.firsts;
    border_count = ap (λ t. length (cond t (line ∷ filter is_border lines) (filter is_border lines))) h12 ∙ stage.border_count;
    rows_in = ap (λ xs. xs ++ flat_map border_rows lines) h13 ∙ stage.rows_in;
  }

  pub cycle_stage : (v r : ℕ) (rs : List ℕ) → row_start (row_named (shell_of s) r) ≡ Some v → Stage s (cycle (r ∷ rs) ∷ lines) b es (v ∷ vs) fs bs ms ls rows
  cycle_stage v r rs at = corner_stage (cycle (r ∷ rs)) v (λ xs. refl) (λ xs. refl) (λ xs. refl) refl refl refl refl at refl refl refl refl refl refl

  pub path_stage : (v r : ℕ) (rs : List ℕ) → row_start (row_named (shell_of s) r) ≡ Some v → Stage s (path (r ∷ rs) ∷ lines) b es (v ∷ vs) fs bs ms ls rows
  path_stage v r rs at = corner_stage (path (r ∷ rs)) v (λ xs. refl) (λ xs. refl) (λ xs. refl) refl refl refl refl at refl refl refl refl refl refl

  pub point_stage : (v face l : ℕ) → option_map (λ (p : LoopAt × ℕ). p.1) (point_named (shell_of s) face l) ≡ Some v
      → Stage s (point face l ∷ lines) b es (v ∷ vs) fs bs ms ls rows
  point_stage v face l at = corner_stage (point face l) v (λ xs. refl) (λ xs. refl) (λ xs. refl) refl refl refl refl at refl refl refl refl refl refl

  -- a line for a face
  pub reach_fits : (r m f g : ℕ) → length (shell_of s).edges ≤ length es → length (shell_of s).vertices ≤ length vs → length fs < (shell_of s).face_count - 1
      → IsMate ms r m → row_face (row_named (shell_of s) r) ≡ Some f → row_face (row_named (shell_of s) m) ≡ Some g → (Has (0 ∷ fs) f → ⊥) → Has (0 ∷ fs) g
      → FitsLine s (progress_from_latest s lines) (reach r)
  reach_fits r m f g edges_done corners_done left mate on_f on_g new old = (
    not_ended,
    (
      (omega (arith, edges_done, edges_left), omega (arith, corners_done, corners_left), omega (arith, left, reach_left)),
      record {
        mate = m;
        face = f;
        known = g;
        mates = subst (λ x. IsMate x r m) (sym mates_before) mate;
        on_face = on_f;
        on_known = on_g;
        new = (λ c. new (Has-from_Contains (0 ∷ fs) f (subst (λ x. Contains x f) reached_before c)));
        old = subst (λ x. Contains x g) (sym reached_before) (Contains-from_Has (0 ∷ fs) g old);
      },
    ),
  )

  pub reach_stage : (r f : ℕ) → row_face (row_named (shell_of s) r) ≡ Some f → Stage s (reach r ∷ lines) b es vs (f ∷ fs) bs ms ls rows
  reach_stage r f on_f = record {
    begun = stage.begun;
    shown = stage.shown;
    asks = stage.asks;
    edges = stage.edges;
    edge_count = stage.edge_count;
    mated = stage.mated;
    alone = stage.alone;
    vertices = stage.vertices;
    corner_count = stage.corner_count;
    faces = ap (λ o. cons_option o (filter_map (face_in (shell_of s)) lines)) on_f ∙ ap (λ xs. f ∷ xs) stage.faces;
    reach_count = ap suc stage.reach_count;
    firsts = stage.firsts;
    border_count = stage.border_count;
    rows_in = stage.rows_in;
  }

  -- a line of border rows
  pub border_fits : (r : ℕ) (rs : List ℕ) → length (shell_of s).edges ≤ length es → length (shell_of s).vertices ≤ length vs
      → (shell_of s).face_count - 1 ≤ length fs → length bs < b → AllByRecursion (Contains ls) (r ∷ rs)
      → AllZip (GoesOnTo (shell_of s)) (r ∷ rs) (next_of_each (r ∷ rs))
      → AllByRecursion (λ x. r < x) rs → IsAbove (first_of bs) r → FitsLine s (progress_from_latest s lines) (border (r ∷ rs))
  border_fits r rs edges_done corners_done reach_done left listed goes least above = (
    not_ended,
    (
      (
        omega (arith, edges_done, edges_left),
        omega (arith, corners_done, corners_left),
        omega (arith, reach_done, reach_left),
        omega
            (arith, left, borders_left),
      ),
      record {
        lone = subst (λ m. AllByRecursion (Contains m) (r ∷ rs)) (sym lone_before) listed;
        goes_on = goes;
        least = least;
        rises =
            subst (λ o. IsAbove o r) (sym border_before) above;
      },
    ),
  )

  pub border_stage : (r : ℕ) (rs : List ℕ) → Stage s (border (r ∷ rs) ∷ lines) b es vs fs (r ∷ bs) ms ls ((r ∷ rs) ++ rows)
  border_stage r rs = record {
    begun = stage.begun;
    shown = stage.shown;
    asks = stage.asks;
    edges = stage.edges;
    edge_count = stage.edge_count;
    mated = stage.mated;
    alone = stage.alone;
    vertices = stage.vertices;
    corner_count = stage.corner_count;
    faces = stage.faces;
    reach_count = stage.reach_count;
    firsts = ap (λ xs. r ∷ xs) stage.firsts;
    border_count = ap suc stage.border_count;
    rows_in = ap (λ xs. (r ∷ rs) ++ xs) stage.rows_in;
  }

  -- the last line
  pub end_fits : length (shell_of s).edges ≤ length es → length (shell_of s).vertices ≤ length vs → (shell_of s).face_count - 1 ≤ length fs → b ≤ length bs
      → length rows ≡ length ls → Follow s lines (end ∷ [])
  unfolding progress_from_latest
  end_fits edges_done corners_done reach_done borders_done whole = (
    (tt, tt),
    (
      not_ended,
      record {
        begun = shell_shown;
        no_edge = omega (arith, edges_done, edges_left);
        no_corner = omega (arith, corners_done, corners_left);
        no_reach = omega (arith, reach_done, reach_left);
        no_border = omega (arith, borders_done, borders_left);
        all_bordered = ap length bordered_before ∙ (whole ∙ ap length (sym lone_before));
      },
    ),
    refl,
  )

-- The line that names the shell.
pub shell_stage : (s : SolidData) (b : ℕ)
    → Stage s (shell s.entity.0 (length (shell_of s).rows) (length (shell_of s).edges) (length (shell_of s).vertices) (shell_of s).face_count b ∷ []) b [] []
    [] [] [] [] []
shell_stage s b = record {
  begun = refl;
  shown = refl;
  asks = refl;
  edges = refl;
  edge_count = refl;
  mated = refl;
  alone = refl;
  vertices = refl;
  corner_count = refl;
  faces = refl;
  reach_count = refl;
  firsts = refl;
  border_count = refl;
  rows_in = refl;
}

pub shell_fits : (s : SolidData) (b : ℕ)
    → FitsLine s (progress_from_latest s [])
    (shell s.entity.0 (length (shell_of s).rows) (length (shell_of s).edges) (length (shell_of s).vertices) (shell_of s).face_count b)
unfolding progress_from_latest
shell_fits s b = (refl, (refl, record { names = refl; rows_counted = refl; edges_counted = refl; corners_counted = refl; faces_counted = refl }))
