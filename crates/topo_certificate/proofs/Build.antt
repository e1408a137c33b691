-- Lines that fit, for the shells of a closed solid.
use Rattle.std.specs.Prelude.{◌≡◌, ℕ, zero, suc, ◌+◌, ◌-◌, ◌<◌, ◌≤◌, ◌==◌, ◌&&◌, cond, ◌⊎◌, Bool, true, false, not, List, [], ◌∷◌, ◌++◌, length, map}
use Rattle.std.specs.Prelude.{filter_map, find, Contains, Some, slice_get, option_map}
use Rattle.std.specs.List.{AllByRecursion, AllZip, cons_option, list_any}
use Rattle.std.proofs.Common.{refl, sym, ◌∙◌, ap, subst, arith, inl, inr, ⊎_elim}
use Rattle.std.proofs.lemmas.Bool.{eq-eqb, eqb-true, cases_lt, and_parts}
use Rattle.solid_data.specs.Ring.{next_of_each, numbers_from}
use Rattle.solid_data.specs.Chain.{Steps}
use Rattle.solid_data.specs.SolidData.{SolidData}
use Rattle.solid_data.specs.declared.solid.EdgeId.{EdgeId}
use Rattle.solid_data.specs.declared.solid.LoopAt.{LoopAt}
use Rattle.edge_uses.specs.declared.row.Row.{Row}
use Rattle.edge_uses.specs.ShellRows.{ShellRows}
use Rattle.edge_uses.specs.RowRelations.{AreMates, Turns, StartsAt, OnFace, IsPaired, point_count}
use Rattle.edge_uses.specs.Around.{AreNeighbours, IsReached, IsLinked, IsPoint}
use Rattle.solid_data.proofs.Members.{Has, NoRepeat, no_longer, Has-from_Contains, Contains-from_Has, All-from, total, count_by-total, Rises, rises_none}
use Rattle.edge_uses.proofs.Counting.{found_row}
use Rattle.cert_text.specs.Text.{IsShort}
use Rattle.cert_lines.specs.Line.{CertLine, edge, corner, point, reach, tally}
use Rattle.cert_lines.specs.declared.counts.TallyCounts.{TallyCounts}
use Rattle.cert_lines.specs.declared.version.Version.{Version}
use Rattle.cert_state.specs.CheckState.{all_due}
use Rattle.cert_state.specs.Progress.{Progress, progress_from_latest, tallies, is_tally, FitsTally, FitsEdge, FitsCorner, FitsPoint, FitsReach, FitsLine, NoneDue}
use Rattle.cert_state.specs.Progress.{IsAbove, first_of, row_named, row_edge, row_start, row_face, point_named, mates_of, edge_of, vertex_of, face_of}
use Rattle.cert_state.specs.Progress.{is_shell, is_edge, is_corner_or_point, is_reach, is_last, number_of, since_shell, asked, rows_of_shell, start_count}
use Rattle.cert_state.specs.Progress.{IsMate, TurnsTo}
use Rattle.cert_state.specs.declared.due.Due.{Due}
use Rattle.solid_data.proofs.Occurring.{numbers_rise, number_below, length-numbers}
use Rattle.cert_state.proofs.Segment.{AreGoodRows, row_has}
use Rattle.topo_certificate.proofs.Facts.{AllFit}
use Rattle.cert_state.proofs.Short.{IsSmall, IsReadable, readable_edge, readable_corner, readable_point, readable_reach, row_short, starts_few}
use Rattle.cert_state.proofs.Corner.{starts_listed}
use Rattle.edge_uses.proofs.Cycle.{same_or_not, zip_from_trail, IsCycle, AreTurning}
use Rattle.edge_uses.proofs.CornerCycle.{cycle_of_corner}
use Rattle.edge_uses.proofs.Turn.{edge_id, one_of_edge, row_of_edge_along, row_of_edge_against}
use Rattle.edge_uses.proofs.RowNumbers.{starting, length-starting, starting_none, starting_is}

-- how far the lines of a shell have come
pub record Stage (version : Version) (s : SolidData) (lines : List CertLine) (k : ℕ) (d : ShellRows) (es vs fs : List ℕ) (ms : List (ℕ × ℕ)) : Type 0 where
  pub rows : rows_of_shell s k ≡ d
  pub begun : list_any is_last lines ≡ false
  pub shells : number_of is_shell lines ≡ k
  pub asks : asked version (find is_shell lines) ≡ all_due version d
  pub edges : filter_map (edge_of d) (since_shell lines) ≡ es
  pub edge_count : number_of is_edge (since_shell lines) ≡ length es
  pub mates : filter_map mates_of (since_shell lines) ≡ ms
  pub vertices : filter_map (vertex_of d) (since_shell lines) ≡ vs
  pub corner_count : number_of is_corner_or_point (since_shell lines) ≡ length vs
  pub faces : filter_map (face_of d) (since_shell lines) ≡ fs
  pub reach_count : number_of is_reach (since_shell lines) ≡ length fs
  pub tally_count : number_of is_tally (since_shell lines) ≡ 0
  pub fit : AllFit version s lines
  pub short : AllByRecursion (IsReadable s) lines

module _ (version : Version) (s : SolidData) (lines : List CertLine) (k : ℕ) (d : ShellRows) (es vs fs : List ℕ) (ms : List (ℕ × ℕ))
    (stage : Stage version s lines k d es vs fs ms) where
  at : Progress
  at = progress_from_latest version s lines

  pub edges_left : (progress_from_latest version s lines).due.edges ≡ length d.edges - length es
  unfolding progress_from_latest
  edges_left = ap (λ (a : Due). a.edges - number_of is_edge (since_shell lines)) stage.asks ∙ ap (λ n. length d.edges - n) stage.edge_count

  pub corners_left : (progress_from_latest version s lines).due.corners ≡ length d.vertices - length vs
  unfolding progress_from_latest
  corners_left = ap (λ (a : Due). a.corners - number_of is_corner_or_point (since_shell lines)) stage.asks ∙ ap (λ n. length d.vertices - n) stage.corner_count

  pub reach_left : (progress_from_latest version s lines).due.reach ≡ d.face_count - 1 - length fs
  unfolding progress_from_latest
  reach_left = ap (λ (a : Due). a.reach - number_of is_reach (since_shell lines)) stage.asks ∙ ap (λ n. d.face_count - 1 - n) stage.reach_count

  pub tally_left : (progress_from_latest version s lines).due.tally ≡ tallies version
  unfolding progress_from_latest
  tally_left = ap (λ (a : Due). a.tally - number_of is_tally (since_shell lines)) stage.asks ∙ (ap (λ n. tallies version - n) stage.tally_count ∙ omega arith)

  pub here : rows_of_shell s (number_of is_shell lines) ≡ d
  here = ap (rows_of_shell s) stage.shells ∙ stage.rows

  pub edge_before : (progress_from_latest version s lines).last_edge ≡ first_of es
  unfolding progress_from_latest
  edge_before = ap (λ c. first_of (filter_map (edge_of c) (since_shell lines))) here ∙ ap first_of stage.edges

  pub vertex_before : (progress_from_latest version s lines).last_vertex ≡ first_of vs
  unfolding progress_from_latest
  vertex_before = ap (λ c. first_of (filter_map (vertex_of c) (since_shell lines))) here ∙ ap first_of stage.vertices

  pub reached_before : (progress_from_latest version s lines).reached ≡ 0 ∷ fs
  unfolding progress_from_latest
  reached_before = ap (λ c. 0 ∷ filter_map (face_of c) (since_shell lines)) here ∙ ap (λ xs. 0 ∷ xs) stage.faces

  pub mates_before : (progress_from_latest version s lines).mates ≡ ms
  unfolding progress_from_latest
  mates_before = stage.mates

  pub not_ended : (progress_from_latest version s lines).ended ≡ false
  unfolding progress_from_latest
  not_ended = stage.begun

  pub shell_here : rows_of_shell s (progress_from_latest version s lines).shell ≡ d
  unfolding progress_from_latest
  shell_here = here

  pub nothing_due : tallies version ≡ 0 → length d.edges ≤ length es → length d.vertices ≤ length vs → d.face_count - 1 ≤ length fs
      → NoneDue (progress_from_latest version s lines).due
  nothing_due none a b c =
      record {
        edges = omega (arith, a, edges_left);
        corners = omega (arith, b, corners_left);
        reach = omega (arith, c, reach_left);
        tally =
            omega (arith, none, tally_left);
      }

  number_here : (progress_from_latest version s lines).shell ≡ k
  unfolding progress_from_latest
  number_here = stage.shells

  -- where one TALLY line ends a shell, and nothing else is due, that of the shell fits, and nothing is due after it
  pub tally_fits : (t : TallyCounts) → tallies version ≡ 1 → length d.edges ≤ length es → length d.vertices ≤ length vs → d.face_count - 1 ≤ length fs
      → FitsTally s k t → FitsLine s (progress_from_latest version s lines) (tally t)
  tally_fits t one a b c fits = (
    not_ended,
    (
      (omega (arith, a, edges_left), omega (arith, b, corners_left), omega (arith, c, reach_left), omega (arith, one, tally_left)),
      subst
          (λ n. FitsTally s n t) (sym number_here) fits,
    ),
  )

  pub none_after_tally : (t : TallyCounts) → tallies version ≡ 1 → length d.edges ≤ length es → length d.vertices ≤ length vs → d.face_count - 1 ≤ length fs
      → NoneDue (progress_from_latest version s (tally t ∷ lines)).due
  unfolding progress_from_latest
  none_after_tally t one a b c =
      let left : tallies version - suc (number_of is_tally (since_shell lines)) ≡ 0 = omega (arith, one) in
      record {
        edges = omega (arith, a, edges_left);
        corners = omega (arith, b, corners_left);
        reach = omega (arith, c, reach_left);
        tally = ap (λ (a : Due). a.tally - suc (number_of is_tally (since_shell lines))) stage.asks ∙ left;
      }

  -- a line for an edge
  pub add_edge : (a b e : ℕ) (x y : Row) → length es < length d.edges → row_named d a ≡ Some x → row_named d b ≡ Some y → x.edge.0 ≡ e → x.edge ≡ y.edge
      → x.along ≡ true → y.along ≡ false → IsAbove (first_of es) e
      → IsReadable s (edge a b) → Stage version s (edge a b ∷ lines) k d (e ∷ es) vs fs ((a, b) ∷ ms)
  add_edge a b e x y left at_a at_b is_e one along against above ok =
      let listed : row_edge (row_named d a) ≡ Some e = ap row_edge at_a ∙ ap Some is_e in
      let fits : FitsEdge d (progress_from_latest version s lines) a b =
      record {
        along_row = x;
        against_row = y;
        at_a = at_a;
        at_b = at_b;
        one_edge = one;
        along = along;
        against = against;
        rises =
            subst (λ o. IsAbove o x.edge.0) (sym edge_before) (subst (λ n. IsAbove (first_of es) n) (sym is_e) above);
      } in
      record {
        rows = stage.rows;
        begun = stage.begun;
        shells = stage.shells;
        asks = stage.asks;
        edges = ap (λ o. cons_option o (filter_map (edge_of d) (since_shell lines))) listed ∙ ap (λ xs. e ∷ xs) stage.edges;
        edge_count = ap suc stage.edge_count;
        mates = ap (λ xs. (a, b) ∷ xs) stage.mates;
        vertices = stage.vertices;
        corner_count = stage.corner_count;
        faces = stage.faces;
        reach_count = stage.reach_count;
        tally_count = stage.tally_count;
        fit = (
          (not_ended, (omega (arith, left, edges_left), subst (λ c. FitsEdge c (progress_from_latest version s lines) a b) (sym shell_here) fits)),
          stage.fit,
        );
        short = (ok, stage.short);
      }

  -- a line for a corner
  pub add_corner : (v r : ℕ) (rs : List ℕ) → length d.edges ≤ length es → length vs < length d.vertices → row_start (row_named d r) ≡ Some v
      → AllZip (TurnsTo d ms) (r ∷ rs) (next_of_each (r ∷ rs)) → AllByRecursion (λ x. r < x) rs
      → length (r ∷ rs) ≡ start_count d v → point_count d v ≡ 0 → IsAbove (first_of vs) v → IsReadable s (corner (r ∷ rs))
      → Stage version s (corner (r ∷ rs) ∷ lines) k d es (v ∷ vs) fs ms
  add_corner v r rs edges_done left starts turns least whole no_point above ok =
      let fits : FitsCorner d (progress_from_latest version s lines) r rs =
      record {
        vertex = v;
        lies_at = starts;
        turns = subst (λ m. AllZip (TurnsTo d m) (r ∷ rs) (next_of_each (r ∷ rs))) (sym mates_before) turns;
        least =
            least;
        whole = whole;
        no_point = no_point;
        rises = subst (λ o. IsAbove o v) (sym vertex_before) above;
      } in
      record {
        rows = stage.rows;
        begun = stage.begun;
        shells = stage.shells;
        asks = stage.asks;
        edges = stage.edges;
        edge_count = stage.edge_count;
        mates = stage.mates;
        vertices = ap (λ o. cons_option o (filter_map (vertex_of d) (since_shell lines))) starts ∙ ap (λ xs. v ∷ xs) stage.vertices;
        corner_count = ap suc stage.corner_count;
        faces = stage.faces;
        reach_count = stage.reach_count;
        tally_count = stage.tally_count;
        fit = (
          (
            not_ended,
            (
              (omega (arith, edges_done, edges_left), omega (arith, left, corners_left)),
              subst
                  (λ c. FitsCorner c (progress_from_latest version s lines) r rs) (sym shell_here) fits,
            ),
          ),
          stage.fit,
        );
        short = (ok, stage.short);
      }

  -- a line for a loop without an edge
  pub add_point : (v face l : ℕ) → length d.edges ≤ length es → length vs < length d.vertices → option_map (λ (p : LoopAt × ℕ). p.1) (point_named d face l)
      ≡ Some v → start_count d v ≡ 0 → point_count d v ≡ 1 → IsAbove (first_of vs) v
      → IsReadable s (point face l) → Stage version s (point face l ∷ lines) k d es (v ∷ vs) fs ms
  add_point v face l edges_done left lies no_row one above ok =
      let fits : FitsPoint d (progress_from_latest version s lines) face l =
      record { vertex = v; lies_at = lies; no_row = no_row; one_point = one; rises = subst (λ o. IsAbove o v) (sym vertex_before) above } in
      record {
        rows = stage.rows;
        begun = stage.begun;
        shells = stage.shells;
        asks = stage.asks;
        edges = stage.edges;
        edge_count = stage.edge_count;
        mates = stage.mates;
        vertices = ap (λ o. cons_option o (filter_map (vertex_of d) (since_shell lines))) lies ∙ ap (λ xs. v ∷ xs) stage.vertices;
        corner_count = ap suc stage.corner_count;
        faces = stage.faces;
        reach_count = stage.reach_count;
        tally_count = stage.tally_count;
        fit = (
          (
            not_ended,
            (
              (omega (arith, edges_done, edges_left), omega (arith, left, corners_left)),
              subst
                  (λ c. FitsPoint c (progress_from_latest version s lines) face l) (sym shell_here) fits,
            ),
          ),
          stage.fit,
        );
        short = (ok, stage.short);
      }

  -- a line for a face
  pub add_reach : (r m f g : ℕ) → length d.edges ≤ length es → length d.vertices ≤ length vs → length fs < d.face_count - 1 → IsMate ms r m
      → row_face (row_named d r) ≡ Some f → row_face (row_named d m) ≡ Some g → (Has (0 ∷ fs) f → ⊥) → Has (0 ∷ fs) g
      → IsReadable s (reach r) → Stage version s (reach r ∷ lines) k d es vs (f ∷ fs) ms
  add_reach r m f g edges_done corners_done left mate on_f on_g new old ok =
      let fits : FitsReach d (progress_from_latest version s lines) r = record {
        mate = m;
        face = f;
        known = g;
        mates = subst (λ x. IsMate x r m) (sym mates_before) mate;
        on_face = on_f;
        on_known = on_g;
        new = (λ c. new (Has-from_Contains (0 ∷ fs) f (subst (λ x. Contains x f) reached_before c)));
        old = subst (λ x. Contains x g) (sym reached_before) (Contains-from_Has (0 ∷ fs) g old);
      } in
      record {
        rows = stage.rows;
        begun = stage.begun;
        shells = stage.shells;
        asks = stage.asks;
        edges = stage.edges;
        edge_count = stage.edge_count;
        mates = stage.mates;
        vertices = stage.vertices;
        corner_count = stage.corner_count;
        faces = ap (λ o. cons_option o (filter_map (face_of d) (since_shell lines))) on_f ∙ ap (λ xs. f ∷ xs) stage.faces;
        reach_count = ap suc stage.reach_count;
        tally_count = stage.tally_count;
        fit = (
          (
            not_ended,
            (
              (omega (arith, edges_done, edges_left), omega (arith, corners_done, corners_left), omega (arith, left, reach_left)),
              subst
                  (λ c. FitsReach c (progress_from_latest version s lines) r) (sym shell_here) fits,
            ),
          ),
          stage.fit,
        );
        short = (ok, stage.short);
      }

-- The edges' lines.

-- two rows of the edge, one along it and one against it, stand among the mates
abbrev pub MatedAt : ShellRows → List (ℕ × ℕ) → ℕ → Type 0
MatedAt d ms e = (a : ℕ) × (b : ℕ) × (x : Row) × (y : Row) × Has ms (suc a, suc b) × (slice_get d.rows a ≡ Some x) × (slice_get d.rows b ≡ Some y)
    × (x.edge.0 ≡ e) × (y.edge.0 ≡ e) × (x.along ≡ true) × (y.along ≡ false)

pub record EdgesBuilt (version : Version) (s : SolidData) (k : ℕ) (d : ShellRows) : Type 0 where
  pub lines : List CertLine
  pub es : List ℕ
  pub ms : List (ℕ × ℕ)
  pub stage : Stage version s lines k d es [] [] ms
  pub all : length es ≡ length d.edges
  pub mated : (e : ℕ) → Has d.edges e → MatedAt d ms e

pub build_edges : (version : Version) (s : SolidData) (k : ℕ) (d : ShellRows) → IsSmall s d → (left es : List ℕ) (ms : List (ℕ × ℕ)) (lines : List CertLine)
    → Stage version s lines k d es [] [] ms
    → length es + length left ≡ length d.edges → AllByRecursion (λ z. IsAbove (first_of es) z) left → Rises left → ((e : ℕ) → Has left e → IsPaired d e)
    → ((e : ℕ) → Has d.edges e → Has left e ⊎ MatedAt d ms e) → EdgesBuilt version s k d
build_edges version s k d small [] es ms lines stage count above rises paired mated =
    record { lines = lines; es = es; ms = ms; stage = stage; all = omega (arith, count); mated = λ e m. ⊎_elim (λ h. absurd h) (λ h. h) (mated e m) }
build_edges version s k d small (e ∷ left) es ms lines stage count above rises paired mated =
    let a = row_of_edge_along d e (paired e (inl refl)) in
    let b = row_of_edge_against d e (paired e (inl refl)) in
    let here : MatedAt d ((suc a.0, suc b.0) ∷ ms) e = (a.0, b.0, a.1, b.1, inl refl, a.2, b.2, a.3, b.3, a.4, b.4) in
    build_edges version s k d small left (e ∷ es) ((suc a.0, suc b.0) ∷ ms) (edge (suc a.0) (suc b.0) ∷ lines)
    (add_edge version s lines k d es [] [] ms stage (suc a.0) (suc b.0) e a.1 b.1 (omega (arith, count)) a.2 b.2 a.3
    (edge_id a.1.edge b.1.edge (a.3 ∙ sym b.3)) a.4 b.4 above.0
    (readable_edge s (suc a.0) (suc b.0) (row_short s d small a.0 a.1 a.2) (row_short s d small b.0 b.1 b.2)))
    (omega (arith, count)) rises.0 rises.1 (λ x m. paired x (inr m))
    (λ x m. ⊎_elim
    (λ h. ⊎_elim (λ same. inr (subst (MatedAt d ((suc a.0, suc b.0) ∷ ms)) same here)) (λ t. inl t) h)
    (λ h. inr (h.0, h.1, h.2, h.3, inr h.4, h.5, h.6, h.7, h.8, h.9, h.10))
    (mated x m))

-- Where all edges are mated, the mates of rows are listed.
pub mates_listed : (d : ShellRows) (ms : List (ℕ × ℕ)) → AreGoodRows d → ((e : ℕ) → Has d.edges e → IsPaired d e) → ((e : ℕ) → Has d.edges e → MatedAt d ms e)
    → (r m : ℕ) → AreMates d r m → IsMate ms (suc r) (suc m)
mates_listed d ms good paired mated r m h =
    let e : ℕ = h.row.edge.0 in
    let known : Has d.edges e = row_has (λ (x : Row). Has d.edges x.edge.0) d.rows r h.row good.edges h.at_r in
    let p = paired e known in
    let k = mated e known in
    let mate_edge : h.mate.edge.0 ≡ e = ap (λ (x : EdgeId). x.0) (sym h.one_edge) in
    by_way k p mate_edge h.row.along refl
  where
    by_way : MatedAt d ms h.row.edge.0 → IsPaired d h.row.edge.0 → h.mate.edge.0 ≡ h.row.edge.0 → (b : Bool) → h.row.along ≡ b → IsMate ms (suc r) (suc m)
    by_way k p me true w =
        let first : k.0 ≡ r = one_of_edge d h.row.edge.0 true k.0 r k.2 h.row p.0 k.5 h.at_r k.7 refl k.9 w in
        let second : k.1 ≡ m = one_of_edge d h.row.edge.0 false k.1 m k.3 h.mate p.1 k.6 h.at_m k.8 me k.10
        (not-back h.row.along h.mate.along h.opposite true w) in
        inl (Contains-from_Has ms (suc r, suc m) (subst (λ x. Has ms (suc x, suc m)) first (subst (λ y. Has ms (suc k.0, suc y)) second k.4)))
      where
        not-back : (b c : Bool) → b ≡ not c → (t : Bool) → b ≡ t → c ≡ not t
        not-back true true o t w = absurd cc
        not-back true false o t w = ap not w
        not-back false true o t w = ap not w
        not-back false false o t w = absurd cc
    by_way k p me false w =
        let first : k.0 ≡ m = one_of_edge d h.row.edge.0 true k.0 m k.2 h.mate p.0 k.5 h.at_m k.7 me k.9 (not-back h.row.along h.mate.along h.opposite w) in
        let second : k.1 ≡ r = one_of_edge d h.row.edge.0 false k.1 r k.3 h.row p.1 k.6 h.at_r k.8 refl k.10 w in
        inr (Contains-from_Has ms (suc m, suc r) (subst (λ x. Has ms (suc x, suc r)) first (subst (λ y. Has ms (suc k.0, suc y)) second k.4)))
      where
        not-back : (b c : Bool) → b ≡ not c → b ≡ false → c ≡ true
        not-back true true o w = refl
        not-back true false o w = absurd cc
        not-back false true o w = refl
        not-back false false o w = absurd cc

-- The corners' lines.

-- two loops without an edge at one place are one
abbrev pub PointsDiffer : ShellRows → Type 0
PointsDiffer d = (p q : LoopAt × ℕ) → Has d.points p → Has d.points q → p.0.face.0 ≡ q.0.face.0 → p.0.place ≡ q.0.place → p.1 ≡ q.1

has_suc : (xs : List ℕ) (x : ℕ) → Has xs x → Has (map suc xs) (suc x)
has_suc [] x h = absurd h
has_suc (y ∷ xs) x (inl e) = inl (ap suc e)
has_suc (y ∷ xs) x (inr h) = inr (has_suc xs x h)

from_suc : (xs : List ℕ) (x : ℕ) → Has (map suc xs) x → (y : ℕ) × (x ≡ suc y) × Has xs y
from_suc [] x h = absurd h
from_suc (y ∷ xs) x (inl e) = (y, sym e, inl refl)
from_suc (y ∷ xs) x (inr h) = let k = from_suc xs x h in (k.0, k.1, inr k.2)

none_suc : (xs : List ℕ) → NoRepeat xs → NoRepeat (map suc xs)
none_suc [] h = tt
none_suc (x ∷ xs) h = ((λ m. let k = from_suc xs (suc x) m in let e : x ≡ k.0 = omega (arith, k.1) in h.0 (subst (Has xs) (sym e) k.2)), none_suc xs h.1)

pub above_suc : (r : ℕ) (xs : List ℕ) → AllByRecursion (λ x. r < x) xs → AllByRecursion (λ x. suc r < x) (map suc xs)
above_suc r [] h = tt
above_suc r (x ∷ xs) h = (omega (arith, h.0), above_suc r xs h.1)

pub zip_suc : (d : ShellRows) (ms : List (ℕ × ℕ)) → ((r m : ℕ) → AreMates d r m → IsMate ms (suc r) (suc m)) → (xs ys : List ℕ) → AllZip (Turns d) xs ys
    → AllZip (TurnsTo d ms) (map suc xs) (map suc ys)
zip_suc d ms listed [] [] h = tt
zip_suc d ms listed [] (y ∷ ys) h = h
zip_suc d ms listed (x ∷ xs) [] h = h
zip_suc d ms listed (x ∷ xs) (y ∷ ys) h = ((suc h.0.0, listed x h.0.0 h.0.1, h.0.2), zip_suc d ms listed xs ys h.1)

pub map-suc-append : (xs : List ℕ) (y : ℕ) → map suc (xs ++ y ∷ []) ≡ map suc xs ++ suc y ∷ []
map-suc-append [] y = refl
map-suc-append (x ∷ xs) y = ap (λ zs. suc x ∷ zs) (map-suc-append xs y)

-- as many as rows start there
cycle_whole : (d : ShellRows) (v r : ℕ) (rs : List ℕ) → IsCycle d v r rs → length (suc r ∷ map suc rs) ≡ start_count d v
cycle_whole d v r rs c =
    let names : List ℕ = map suc (r ∷ rs) in
    let into : (x : ℕ) → Has names x → Has (starting v 1 d.rows) x =
    λ x m. let k = from_suc (r ∷ rs) x m in
    let at = c.each k.0 k.2 in
    subst (Has (starting v 1 d.rows)) (sym k.1) (starts_listed d v (suc k.0) (ap row_start at.1 ∙ ap Some at.2)) in
    let back : (x : ℕ) → Has (starting v 1 d.rows) x → Has names x =
    λ x m. let f = starting_is v 1 x d.rows m in
    let e : x ≡ suc f.0 = omega (arith, f.2) in
    subst (Has names) (sym e) (has_suc (r ∷ rs) f.0 (c.all f.0 (f.1, f.3, f.4))) in
    let few = no_longer names (starting v 1 d.rows) (none_suc (r ∷ rs) c.none) into in
    let many = no_longer (starting v 1 d.rows) names (starting_none v 1 d.rows) back in
    omega (arith, few, many, length-starting v 1 d.rows, count_by-total (λ (x : Row). x.from.0 == v) d.rows)

-- a point that is counted is there
pub found_point : (p : LoopAt × ℕ → Bool) (ps : List (LoopAt × ℕ)) → 1 ≤ total (λ x. cond (p x) 1 0) ps → (q : LoopAt × ℕ) × Has ps q × (p q ≡ true)
found_point p [] h = absurd (omega (arith, h))
found_point p (x ∷ ps) h = by_test (p x) refl h (λ k. found_point p ps k)
  where
    by_test : (b : Bool) → p x ≡ b → 1 ≤ cond b 1 0 + total (λ y. cond (p y) 1 0) ps
        → (1 ≤ total (λ y. cond (p y) 1 0) ps → (q : LoopAt × ℕ) × Has ps q × (p q ≡ true)) → (q : LoopAt × ℕ) × Has (x ∷ ps) q × (p q ≡ true)
    by_test true e k on = (x, inl refl, e)
    by_test false e k on = let f = on (omega (arith, k)) in (f.0, inr f.1, f.2)

pub find_some : (p : LoopAt × ℕ → Bool) (ps : List (LoopAt × ℕ)) (q : LoopAt × ℕ) → Has ps q → p q ≡ true → (z : LoopAt × ℕ) × (find p ps ≡ Some z) × Has ps z
    × (p z ≡ true)
find_some p [] q h e = absurd h
find_some p (x ∷ ps) q h e = by_test (p x) refl h (λ m. find_some p ps q m e)
  where
    by_test : (b : Bool) → p x ≡ b → Has (x ∷ ps) q → (Has ps q → (z : LoopAt × ℕ) × (find p ps ≡ Some z) × Has ps z × (p z ≡ true))
        → (z : LoopAt × ℕ) × (cond b (Some x) (find p ps) ≡ Some z) × Has (x ∷ ps) z × (p z ≡ true)
    by_test true t m on = (x, refl, inl refl, t)
    by_test false t (inl same) on = absurd (false_true (sym t ∙ (ap p same ∙ e)))
      where
        false_true : false ≡ true → ⊥
        false_true w = cc
    by_test false t (inr m) on = let f = on m in (f.0, f.1, inr f.2, f.3)

named_point : (s : SolidData) (d : ShellRows) (v : ℕ) → IsSmall s d → PointsDiffer d → IsPoint d v
    → (face : ℕ) × (l : ℕ) × (option_map (λ (p : LoopAt × ℕ). p.1) (point_named d face l) ≡ Some v) × IsShort face × IsShort l
named_point s d v small differ h =
    let f = found_point (λ (p : LoopAt × ℕ). p.1 == v) d.points (omega (arith, h.one_point, count_by-total (λ (p : LoopAt × ℕ). p.1 == v) d.points)) in
    let face : ℕ = f.0.0.face.0 + 1 in
    let l : ℕ = f.0.0.place + 1 in
    let test : LoopAt × ℕ → Bool = λ p. (p.0.face.0 + 1 == face) && (p.0.place + 1 == l) in
    let itself : test f.0 ≡ true = ap (λ b. b && (f.0.0.place + 1 == l)) (eq-eqb face face refl) ∙ eq-eqb l l refl in
    let g = find_some test d.points f.0 f.1 itself in
    let parts = and_parts (g.0.0.face.0 + 1 == face) (g.0.0.place + 1 == l) g.3 in
    let same_face : g.0.0.face.0 ≡ f.0.0.face.0 = (let e = eqb-true (g.0.0.face.0 + 1) face parts.0 in omega (arith, e)) in
    let same_place : g.0.0.place ≡ f.0.0.place = (let e = eqb-true (g.0.0.place + 1) l parts.1 in omega (arith, e)) in
    let vertex : g.0.1 ≡ v = differ g.0 f.0 g.2 f.1 same_face same_place ∙ eqb-true f.0.1 v f.2 in
    let sizes = small.points f.0 f.1 in
    (face, l, ap (option_map (λ (p : LoopAt × ℕ). p.1)) g.1 ∙ ap Some vertex, sizes.0, sizes.1)

pub none_start : (d : ShellRows) (v : ℕ) → ((r : ℕ) → ¬ StartsAt d v r) → start_count d v ≡ 0
none_start d v h = by_count (start_count d v) refl
  where
    by_count : (n : ℕ) → start_count d v ≡ n → start_count d v ≡ 0
    by_count zero e = e
    by_count (suc n) e =
        let f = found_row (λ (x : Row). x.from.0 == v) d.rows (omega (arith, e, count_by-total (λ (x : Row). x.from.0 == v) d.rows)) in
        absurd (h f.0 (f.1, f.2, eqb-true f.1.from.0 v f.3))

pub record CornersBuilt (version : Version) (s : SolidData) (k : ℕ) (d : ShellRows) (es : List ℕ) (ms : List (ℕ × ℕ)) : Type 0 where
  pub lines : List CertLine
  pub vs : List ℕ
  pub stage : Stage version s lines k d es vs [] ms
  pub all : length vs ≡ length d.vertices

pub build_corners : (version : Version) (s : SolidData) (k : ℕ) (d : ShellRows) (es : List ℕ) (ms : List (ℕ × ℕ)) → IsSmall s d → AreTurning d → PointsDiffer d
    → ((r m : ℕ) → AreMates d r m → IsMate ms (suc r) (suc m)) → length d.edges ≤ length es
    → (left vs : List ℕ) (lines : List CertLine) → Stage version s lines k d es vs [] ms → length vs + length left ≡ length d.vertices
    → AllByRecursion (λ z. IsAbove (first_of vs) z) left → Rises left → ((v : ℕ) → Has left v → IsLinked d v)
    → CornersBuilt version s k d es ms
build_corners version s k d es ms small turning differ listed done [] vs lines stage count above rises linked =
    record { lines = lines; vs = vs; stage = stage; all = omega (arith, count) }
build_corners version s k d es ms small turning differ listed done (v ∷ left) vs lines stage count above rises linked =
    ⊎_elim
    (λ is_corner.
    let c = cycle_of_corner d v turning is_corner in
    let cycle : IsCycle d v c.0 c.1 = c.2 in
    let zipped : AllZip (Turns d) (c.0 ∷ c.1) (c.1 ++ c.0 ∷ []) = zip_from_trail (Turns d) c.0 c.1 c.0 cycle.trail in
    let turns : AllZip (TurnsTo d ms) (suc c.0 ∷ map suc c.1) (map suc c.1 ++ suc c.0 ∷ []) = subst (λ ys. AllZip (TurnsTo d ms) (suc c.0 ∷ map suc c.1) ys)
    (map-suc-append c.1 c.0) (zip_suc d ms listed (c.0 ∷ c.1) (c.1 ++ c.0 ∷ []) zipped) in
    build_corners version s k d es ms small turning differ listed done left (v ∷ vs) (corner (suc c.0 ∷ map suc c.1) ∷ lines)
    (add_corner version s lines k d es vs [] ms stage v (suc c.0) (map suc c.1) done (omega (arith, count))
    (ap row_start cycle.starts.1 ∙ ap Some cycle.starts.2) turns (above_suc c.0 c.1 cycle.least) (cycle_whole d v c.0 c.1 cycle) is_corner.no_point above.0
    (readable_corner s (suc c.0) (map suc c.1)
    (All-from IsShort (suc c.0 ∷ map suc c.1)
    (λ x m. let q = from_suc (c.0 ∷ c.1) x m in let at = cycle.each q.0 q.2 in subst IsShort (sym q.1) (row_short s d small q.0 at.0 at.1)))
    (omega (arith, cycle_whole d v c.0 c.1 cycle, starts_few s d small v))))
    (omega (arith, count)) rises.0 rises.1 (λ x m. linked x (inr m)))
    (λ point_there.
    let p = named_point s d v small differ point_there in
    build_corners version s k d es ms small turning differ listed done left (v ∷ vs) (point p.0 p.1 ∷ lines)
    (add_point version s lines k d es vs [] ms stage v p.0 p.1 done (omega (arith, count)) p.2 (none_start d v point_there.no_row) point_there.one_point
    above.0 (readable_point s p.0 p.1 p.3 p.4))
    (omega (arith, count)) rises.0 rises.1 (λ x m. linked x (inr m)))
    (linked v (inl refl))

-- The faces' lines.

pub decide_has : (xs : List ℕ) (x : ℕ) → Has xs x ⊎ (Has xs x → ⊥)
decide_has [] x = inr (λ h. h)
decide_has (y ∷ xs) x = ⊎_elim (λ e. inl (inl e)) (λ ne. ⊎_elim (λ h. inl (inr h)) (λ none. inr (λ m. ⊎_elim ne none m)) (decide_has xs x)) (same_or_not y x)

-- one of the first that is not in the second, or none is
pub outsider : (xs ys : List ℕ) → ((x : ℕ) × Has xs x × (Has ys x → ⊥)) ⊎ ((x : ℕ) → Has xs x → Has ys x)
outsider [] ys = inr (λ x m. absurd m)
outsider (x ∷ xs) ys =
    ⊎_elim
    (λ h. ⊎_elim (λ o. inl (o.0, inr o.1, o.2)) (λ all. inr (λ z m. ⊎_elim (λ e. subst (Has ys) e h) (λ k. all z k) m)) (outsider xs ys))
    (λ none. inl (x, inl refl, none))
    (decide_has ys x)

-- where a chain leaves a list
pub leaving : (R : ℕ → ℕ → Type 0) (xs : List ℕ) (n a b : ℕ) → Steps R n a b → Has xs a → (Has xs b → ⊥) → (g : ℕ) × (h : ℕ) × Has xs g × (Has xs h → ⊥) × R g h
leaving R xs zero a b e m none = absurd (none (subst (Has xs) e m))
leaving R xs (suc n) a b (c, r, rest) m none = ⊎_elim (λ k. leaving R xs n c b rest k none) (λ k. (a, c, m, k, r)) (decide_has xs c)

pub record ReachBuilt (version : Version) (s : SolidData) (k : ℕ) (d : ShellRows) (es vs : List ℕ) (ms : List (ℕ × ℕ)) : Type 0 where
  pub lines : List CertLine
  pub fs : List ℕ
  pub stage : Stage version s lines k d es vs fs ms
  pub all : d.face_count - 1 ≤ length fs

pub build_reach : (version : Version) (s : SolidData) (k : ℕ) (d : ShellRows) (es vs : List ℕ) (ms : List (ℕ × ℕ)) → IsSmall s d
    → ((r m : ℕ) → AreMates d r m → IsMate ms (suc r) (suc m)) → length d.edges ≤ length es → length d.vertices ≤ length vs
    → ((f : ℕ) → f < d.face_count → IsReached d f) → (left : ℕ) (fs : List ℕ) (lines : List CertLine) → Stage version s lines k d es vs fs ms
    → d.face_count - 1 ≤ length fs + left → ReachBuilt version s k d es vs ms
build_reach version s k d es vs ms small listed edges_done corners_done reached zero fs lines stage count =
    record { lines = lines; fs = fs; stage = stage; all = omega (arith, count) }
build_reach version s k d es vs ms small listed edges_done corners_done reached (suc left) fs lines stage count =
    by_length (cases_lt (length fs) (d.face_count - 1))
    (λ fs' lines' stage' count'. build_reach version s k d es vs ms small listed edges_done corners_done reached left fs' lines' stage' count')
  where
    Next : Type 0
    Next = (fs' : List ℕ) (lines' : List CertLine) → Stage version s lines' k d es vs fs' ms → d.face_count - 1 ≤ length fs' + left
        → ReachBuilt version s k d es vs ms

    by_length : (length fs < d.face_count - 1) ⊎ (d.face_count - 1 ≤ length fs) → Next → ReachBuilt version s k d es vs ms
    by_length (inr done) next = record { lines = lines; fs = fs; stage = stage; all = done }
    by_length (inl more) next = ⊎_elim new all_in (outsider (numbers_from 0 d.face_count) (0 ∷ fs))
      where
        all_in : ((x : ℕ) → Has (numbers_from 0 d.face_count) x → Has (0 ∷ fs) x) → ReachBuilt version s k d es vs ms
        all_in into = absurd (let h = no_longer (numbers_from 0 d.face_count) (0 ∷ fs) (rises_none (numbers_from 0 d.face_count) (numbers_rise 0 d.face_count))
            into in omega (arith, h, length-numbers 0 d.face_count, more))

        new : (x : ℕ) × Has (numbers_from 0 d.face_count) x × (Has (0 ∷ fs) x → ⊥) → ReachBuilt version s k d es vs ms
        new (x, there, none) =
            let below : x < d.face_count = (let b = number_below 0 d.face_count x there in omega (arith, b.1)) in
            let chain = reached x below in
            let c = leaving (AreNeighbours d) (0 ∷ fs) chain.0 0 x chain.1 (inl refl) none in
            let mates : AreMates d c.4.0 c.4.1 = c.4.2 in
            let on_g : OnFace d c.0 c.4.0 = c.4.3 in
            let on_h : OnFace d c.1 c.4.1 = c.4.4 in
            let mate : IsMate ms (suc c.4.1) (suc c.4.0) = ⊎_elim (λ m. inr m) (λ m. inl m) (listed c.4.0 c.4.1 mates) in
            next (c.1 ∷ fs) (reach (suc c.4.1) ∷ lines)
            (add_reach version s lines k d es vs fs ms stage (suc c.4.1) (suc c.4.0) c.1 c.0 edges_done corners_done more mate
            (ap row_face on_h.1 ∙ ap Some on_h.2) (ap row_face on_g.1 ∙ ap Some on_g.2) c.3 c.2
            (readable_reach s (suc c.4.1) (row_short s d small c.4.1 on_h.0 on_h.1)))
            (omega (arith, count))
