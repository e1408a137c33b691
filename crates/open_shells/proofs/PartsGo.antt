-- The lines of parts fit one behind the other.
use Rattle.std.specs.Prelude.{◌≡◌, ℕ, suc, ◌+◌, ◌-◌, ◌*◌, ◌≤◌, ◌==◌, ◌&&◌, ◌⊎◌, Bool, true, false, not, List, [], ◌∷◌, ◌++◌, length, map, Contains, Some}
use Rattle.std.specs.Prelude.{slice_get, option_map}
use Rattle.std.specs.List.{AllByRecursion, AllZip}
use Rattle.std.proofs.Common.{refl, sym, ◌∙◌, ap, subst, arith, inl, inr, ⊎_elim, length-append}
use Rattle.std.proofs.lemmas.Bool.{eq-eqb, eqb-true, and_parts}
use Rattle.std.proofs.lemmas.List.{length-map}
use Rattle.std.proofs.lemmas.Option.{same_Some, slice_get_within}
use Rattle.solid_data.specs.SolidData.{SolidData}
use Rattle.solid_data.specs.declared.solid.LoopAt.{LoopAt}
use Rattle.solid_data.specs.declared.solid.RowId.{RowId}
use Rattle.solid_data.proofs.Members.{Has, Has-from_Contains, Contains-from_Has, NoRepeat, Rises, rises_none, total, count_by-total}
use Rattle.edge_uses.specs.declared.row.Row.{Row}
use Rattle.edge_uses.specs.ShellRows.{ShellRows}
use Rattle.edge_uses.specs.RowRelations.{AreMates, StartsAt, Turns}
use Rattle.edge_uses.specs.Mates.{RunsOn}
use Rattle.edge_uses.proofs.Counting.{uses_of_edge, counts_of_edge, one_place}
use Rattle.edge_uses.proofs.Turn.{edge_id}
use Rattle.cert_text.specs.Text.{IsShort}
use Rattle.cert_state.specs.Progress.{IsAbove, first_of, row_named, row_start, row_face, point_named, start_count, IsMate, TurnsTo}
use Rattle.cert_state.proofs.Segment.{AreGoodRows, row_has}
use Rattle.topo_certificate.proofs.Build.{MatedAt, PointsDiffer, zip_suc, map-suc-append, above_suc, find_some, none_start}
use Rattle.open_certificate.specs.Sound.{row_total, IsBorder, IsOnce, GoesOn, IsBorderCycle, IsBorderCycleOf}
use Rattle.open_certificate.specs.Line.{OpenLine, edge, lone, cycle, path, point, reach, border}
use Rattle.open_certificate.specs.Progress.{shell_of, IsChain, last_of, GoesOnTo}
use Rattle.open_certificate.specs.Written.{edge_line, corner_line, reach_line, border_line}
use Rattle.open_shells.specs.Mating.{AreRowsOf, AreOnce}
use Rattle.open_shells.specs.FanParts.{LiesAt, IsCycle, IsPath}
use Rattle.shell_reach.specs.Reaching.{ReachFrom, ReachesOne, row_numbers}
use Rattle.open_shells.specs.BorderParts.{flat, first_in}
use Rattle.open_certificate.specs.declared.parts.OpenEdge.{OpenEdge}
use Rattle.open_certificate.specs.declared.parts.OpenEdge.TheVariants.{One, Two}
use Rattle.open_certificate.specs.declared.parts.OpenCorner.{OpenCorner}
use Rattle.open_certificate.specs.declared.parts.OpenCorner.TheVariants.{Cycle, Path, Point}
use Rattle.open_certificate.proofs.Once.{total_uses}
use Rattle.open_certificate.proofs.Fans.{one_mate_of, lone_no_mate, both_ways_counted, counted_way}
use Rattle.open_shells.proofs.OnceMates.{row_once}
use Rattle.open_shells.proofs.OpenSizes.{AreSmall}
use Rattle.open_shells.proofs.PartsFit.{Follow, Stage, one_more, named_rows, edge_named, edge_fits, edge_stage, lone_fits, lone_stage, cycle_fits, cycle_stage}
use Rattle.open_shells.proofs.PartsFit.{path_fits, path_stage, point_fits, point_stage, reach_fits, reach_stage, border_fits, border_stage}

-- the only row of the edge stands among the rows that are listed so
abbrev pub LoneAt : ShellRows → List ℕ → ℕ → Type 0
LoneAt d ls e = (r : ℕ) × (row : Row) × Has ls (suc r) × (slice_get d.rows r ≡ Some row) × (row.edge.0 ≡ e) × (row_total d e ≡ 1)

abbrev pub ListedAt : ShellRows → List (ℕ × ℕ) → List ℕ → ℕ → Type 0
ListedAt d ms ls e = MatedAt d ms e ⊎ LoneAt d ls e

-- a border row whose edge isn't one of these
abbrev pub LoneRow : ShellRows → List ℕ → ℕ → Type 0
LoneRow d left a = (r : ℕ) × (row : Row) × (a ≡ suc r) × (slice_get d.rows r ≡ Some row) × (row_total d row.edge.0 ≡ 1) × (Has left row.edge.0 → ⊥)

pub record LoneOk (d : ShellRows) (left ls : List ℕ) : Type 0 where
  pub none : NoRepeat ls
  pub each : (a : ℕ) → Has ls a → LoneRow d left a

two_uses : (d : ShellRows) (e r m : ℕ) → IsOnce d e → RunsOn d e true r → RunsOn d e false m → uses_of_edge d.rows e ≡ 2
two_uses d e r m (inl one) a c =
    absurd (both_ways_counted d e one (counted_way d e true r a.row a.at a.edge a.along) (counted_way d e false m c.row c.at c.edge c.along))
two_uses d e r m (inr pair) a c = omega (arith, pair.0, pair.1, counts_of_edge d e)

total_none : (f : ℕ → ℕ) (xs : List ℕ) → length xs ≡ 0 → total f xs ≡ 0
total_none f [] h = refl
total_none f (x ∷ xs) h = absurd (omega (arith, h))

short_row : (d : ShellRows) → AreSmall d → (n : ℕ) (r : Row) → slice_get d.rows n ≡ Some r → IsShort (suc n)
short_row d small n r at = omega (arith, slice_get_within d.rows n r at, small.rows)

lone_less : (d : ShellRows) (e : ℕ) (left ls : List ℕ) → LoneOk d (e ∷ left) ls → LoneOk d left ls
lone_less d e left ls ok = record { none = ok.none; each = λ a m. let k = ok.each a m in (k.0, k.1, k.2, k.3, k.4, λ h. k.5 (inr h)) }

lone_new : (d : ShellRows) (e : ℕ) (left ls : List ℕ) (r : ℕ) (row : Row) → slice_get d.rows r ≡ Some row → row.edge.0 ≡ e → row_total d e ≡ 1
    → (Has left e → ⊥) → LoneOk d (e ∷ left) ls → LoneOk d left (suc r ∷ ls)
lone_new d e left ls r row at is_e one out ok =
    let less = lone_less d e left ls ok in
    let fresh : Has ls (suc r) → ⊥ =
    λ m. let k = ok.each (suc r) m in
    let same_r : r ≡ k.0 = omega (arith, k.2) in
    let same : row ≡ k.1 = same_Some row k.1 (sym at ∙ (ap (slice_get d.rows) same_r ∙ k.3)) in
    k.5 (inl (sym is_e ∙ ap (λ (x : Row). x.edge.0) same)) in
    record {
      none = (fresh, ok.none);
      each = λ a m. ⊎_elim (λ here. (r, row, sym here, at, ap (row_total d) is_e ∙ one, λ h. out (subst (Has left) is_e h))) (λ h. less.each a h) m;
    }

module _ (s : SolidData) (b : ℕ) (small : AreSmall (shell_of s)) where
  -- The lines of the edges fit, if those behind them do.
  pub edges_go : (rest : List OpenLine) (left es : List ℕ) (parts : List OpenEdge) (ms : List (ℕ × ℕ)) (ls : List ℕ) (lines : List OpenLine)
      → Stage s lines b es [] [] [] ms ls []
      → length es + length left ≡ length (shell_of s).edges
      → 2 * length ms + length ls + total (uses_of_edge (shell_of s).rows) left ≡ length (shell_of s).rows
      → AllByRecursion (λ z. IsAbove (first_of es) z) left → Rises left → AllZip (AreRowsOf (shell_of s)) left parts
      → AllByRecursion (IsOnce (shell_of s)) left → LoneOk (shell_of s) left ls
      → ((e : ℕ) → Has (shell_of s).edges e → Has left e ⊎ ListedAt (shell_of s) ms ls e)
      → ((es' : List ℕ) (ms' : List (ℕ × ℕ)) (ls' : List ℕ) (lines' : List OpenLine) → Stage s lines' b es' [] [] [] ms' ls' []
      → length (shell_of s).edges ≤ length es' → LoneOk (shell_of s) [] ls' → ((e : ℕ) → Has (shell_of s).edges e → ListedAt (shell_of s) ms' ls' e)
      → Follow s lines' rest)
      → Follow s lines (map edge_line parts ++ rest)
  edges_go rest [] es [] ms ls lines stage count uses above rises rows once ok listed on =
      on es ms ls lines stage (omega (arith, count)) ok (λ e m. ⊎_elim (λ h. absurd h) (λ h. h) (listed e m))
  edges_go rest [] es (p ∷ parts) ms ls lines stage count uses above rises rows once ok listed on = absurd rows
  edges_go rest (e ∷ left) es [] ms ls lines stage count uses above rises rows once ok listed on = absurd rows
  edges_go rest (e ∷ left) es (Two p q ∷ parts) ms ls lines stage count uses above rises rows once ok listed on =
      let d : ShellRows = shell_of s in
      let a : RunsOn d e true p.0 = rows.0.0 in
      let c : RunsOn d e false q.0 = rows.0.1 in
      let two = two_uses d e p.0 q.0 once.0 a c in
      let here : MatedAt d ((suc p.0, suc q.0) ∷ ms) e = (p.0, q.0, a.row, c.row, inl refl, a.at, c.at, a.edge, c.edge, a.along, c.along) in
      let next : Stage s (edge (suc p.0) (suc q.0) ∷ lines) b (e ∷ es) [] [] [] ((suc p.0, suc q.0) ∷ ms) ls [] =
      edge_stage s lines b es [] [] [] ms ls [] stage (suc p.0) (suc q.0) e a.row a.at a.edge in
      let fits = edge_fits s lines b es [] [] [] ms ls [] stage (suc p.0) (suc q.0) e a.row c.row (omega (arith, count)) a.at c.at a.edge
      (edge_id a.row.edge c.row.edge (a.edge ∙ sym c.edge)) a.along c.along above.0
      (λ due. let none = total_none (uses_of_edge d.rows) left (omega (arith, due, count)) in omega (arith, uses, two, none)) in
      subst (λ l. Follow s lines (l ∷ (map edge_line parts ++ rest))) (edge_named p q) (
        ((short_row d small p.0 a.row a.at, (short_row d small q.0 c.row c.at, tt)), tt),
        fits,
        edges_go rest left (e ∷ es) parts ((suc p.0, suc q.0) ∷ ms) ls (edge (suc p.0) (suc q.0) ∷ lines) next (omega (arith, count))
            (omega (arith, uses, two)) rises.0 rises.1 rows.1 once.1 (lone_less d e left ls ok)
            (λ x m. ⊎_elim
            (λ h. ⊎_elim (λ same. inr (inl (subst (MatedAt d ((suc p.0, suc q.0) ∷ ms)) same here))) (λ t. inl t) h)
            (λ h. inr (⊎_elim (λ k. inl (k.0, k.1, k.2, k.3, inr k.4, k.5, k.6, k.7, k.8, k.9, k.10)) (λ k. inr k) h))
            (listed x m))
            on,
      )
  edges_go rest (e ∷ left) es (One p ∷ parts) ms ls lines stage count uses above rises rows once ok listed on =
      let d : ShellRows = shell_of s in
      let a : RunsOn d e rows.0.0 p.0 = rows.0.1 in
      let total_one : row_total d e ≡ 1 = rows.0.2 in
      let one : uses_of_edge d.rows e ≡ 1 = sym (total_uses d e) ∙ total_one in
      let out : Has left e → ⊥ = (rises_none (e ∷ left) rises).0 in
      let here : LoneAt d (suc p.0 ∷ ls) e = (p.0, a.row, inl refl, a.at, a.edge, total_one) in
      let next : Stage s (lone (suc p.0) ∷ lines) b (e ∷ es) [] [] [] ms (suc p.0 ∷ ls) [] = lone_stage s lines b es [] [] [] ms ls [] stage (suc p.0) e a.row
      a.at a.edge in
      let fits = lone_fits s lines b es [] [] [] ms ls [] stage (suc p.0) e a.row (omega (arith, count)) a.at a.edge above.0
      (λ due. let none = total_none (uses_of_edge d.rows) left (omega (arith, due, count)) in omega (arith, uses, one, none)) in
      subst (λ n. Follow s lines (lone n ∷ (map edge_line parts ++ rest))) (one_more p) (
        ((short_row d small p.0 a.row a.at, tt), tt),
        fits,
        edges_go rest left (e ∷ es) parts ms (suc p.0 ∷ ls) (lone (suc p.0) ∷ lines) next (omega (arith, count)) (omega (arith, uses, one)) rises.0 rises.1
            rows.1 once.1 (lone_new d e left ls p.0 a.row a.at a.edge total_one out ok)
            (λ x m. ⊎_elim
            (λ h. ⊎_elim (λ same. inr (inr (subst (LoneAt d (suc p.0 ∷ ls)) same here))) (λ t. inl t) h)
            (λ h. inr (⊎_elim (λ k. inl k) (λ k. inr (k.0, k.1, inr k.2, k.3, k.4, k.5)) h))
            (listed x m))
            on,
      )

  starts_short : (v : ℕ) (xs : List ℕ) → AllByRecursion (StartsAt (shell_of s) v) xs → AllByRecursion IsShort (map suc xs)
  starts_short v [] h = tt
  starts_short v (x ∷ xs) h = (short_row (shell_of s) small x h.0.0 h.0.1, starts_short v xs h.1)

  -- The line of a loop without an edge names it.
  point_lies : (v : ℕ) (at : LoopAt) → PointsDiffer (shell_of s) → Contains (shell_of s).points (at, v)
      → (option_map (λ (p : LoopAt × ℕ). p.1) (point_named (shell_of s) (at.face.0 + 1) (at.place + 1)) ≡ Some v) × IsShort (at.face.0 + 1)
      × IsShort (at.place + 1)
  point_lies v at differ here =
      let d : ShellRows = shell_of s in
      let m : Has d.points (at, v) = Has-from_Contains d.points (at, v) here in
      let face : ℕ = at.face.0 + 1 in
      let l : ℕ = at.place + 1 in
      let test : LoopAt × ℕ → Bool = λ p. (p.0.face.0 + 1 == face) && (p.0.place + 1 == l) in
      let itself : test (at, v) ≡ true = ap (λ b. b && (at.place + 1 == l)) (eq-eqb face face refl) ∙ eq-eqb l l refl in
      let g = find_some test d.points (at, v) m itself in
      let parts = and_parts (g.0.0.face.0 + 1 == face) (g.0.0.place + 1 == l) g.3 in
      let same_face : g.0.0.face.0 ≡ at.face.0 = (let e = eqb-true (g.0.0.face.0 + 1) face parts.0 in omega (arith, e)) in
      let same_place : g.0.0.place ≡ at.place = (let e = eqb-true (g.0.0.place + 1) l parts.1 in omega (arith, e)) in
      let sizes = small.points (at, v) m in
      (ap (option_map (λ (p : LoopAt × ℕ). p.1)) g.1 ∙ ap Some (differ g.0 (at, v) g.2 m same_face same_place), sizes.0, sizes.1)

  chain_suc : (ms : List (ℕ × ℕ)) → ((r m : ℕ) → AreMates (shell_of s) r m → IsMate ms (suc r) (suc m)) → (r : ℕ) (rs : List ℕ)
      → IsChain (Turns (shell_of s)) r rs → IsChain (TurnsTo (shell_of s) ms) (suc r) (map suc rs)
  chain_suc ms listed r [] h = tt
  chain_suc ms listed r (x ∷ xs) h = ((suc h.0.0, listed r h.0.0 h.0.1, h.0.2), chain_suc ms listed x xs h.1)

  last_suc : (r : ℕ) (rs : List ℕ) → last_of (suc r) (map suc rs) ≡ suc (last_of r rs)
  last_suc r [] = refl
  last_suc r (x ∷ xs) = last_suc x xs

  -- The lines of the vertices fit, if those behind them do.
  pub corners_go : (es : List ℕ) (ms : List (ℕ × ℕ)) (ls : List ℕ) → PointsDiffer (shell_of s)
      → ((r m : ℕ) → AreMates (shell_of s) r m → IsMate ms (suc r) (suc m)) → ((r : ℕ) → IsBorder (shell_of s) r → Has ls (suc r))
      → length (shell_of s).edges ≤ length es
      → (rest : List OpenLine) (left vs : List ℕ) (corners : List OpenCorner) (lines : List OpenLine) → Stage s lines b es vs [] [] ms ls []
      → length vs + length left ≡ length (shell_of s).vertices → AllByRecursion (λ z. IsAbove (first_of vs) z) left → Rises left
      → AllZip (LiesAt (shell_of s)) left corners
      → ((vs' : List ℕ) (lines' : List OpenLine) → Stage s lines' b es vs' [] [] ms ls [] → length (shell_of s).vertices ≤ length vs' → Follow s lines' rest)
      → Follow s lines (map corner_line corners ++ rest)
  corners_go es ms ls differ listed bordered done rest [] vs [] lines stage count above rises lie on = on vs lines stage (omega (arith, count))
  corners_go es ms ls differ listed bordered done rest [] vs (c ∷ corners) lines stage count above rises lie on = absurd lie
  corners_go es ms ls differ listed bordered done rest (v ∷ left) vs [] lines stage count above rises lie on = absurd lie
  corners_go es ms ls differ listed bordered done rest (v ∷ left) vs (Cycle [] ∷ corners) lines stage count above rises lie on = absurd lie.0
  corners_go es ms ls differ listed bordered done rest (v ∷ left) vs (Path [] ∷ corners) lines stage count above rises lie on = absurd lie.0
  corners_go es ms ls differ listed bordered done rest (v ∷ left) vs (Cycle (r ∷ rows) ∷ corners) lines stage count above rises lie on =
      let d : ShellRows = shell_of s in
      let rs : List ℕ = row_numbers rows in
      let round : IsCycle d v r.0 rs = lie.0 in
      let starts : row_start (row_named d (suc r.0)) ≡ Some v = ap row_start round.starts.0.1 ∙ ap Some round.starts.0.2 in
      let turns = subst (λ ys. AllZip (TurnsTo d ms) (suc r.0 ∷ map suc rs) ys) (map-suc-append rs r.0)
      (zip_suc d ms listed (r.0 ∷ rs) (rs ++ r.0 ∷ []) round.turns) in
      let whole : length (suc r.0 ∷ map suc rs) ≡ start_count d v = omega (arith, round.once, length-map rs suc) in
      let next : Stage s (cycle (suc r.0 ∷ map suc rs) ∷ lines) b es (v ∷ vs) [] [] ms ls [] = cycle_stage s lines b es vs [] [] ms ls [] stage v (suc r.0)
      (map suc rs) starts in
      let fits = cycle_fits s lines b es vs [] [] ms ls [] stage v (suc r.0) (map suc rs) done (omega (arith, count)) starts turns
      (above_suc r.0 rs round.least) whole round.no_point above.0 in
      subst (λ ns. Follow s lines (cycle ns ∷ (map corner_line corners ++ rest))) (named_rows (r ∷ rows)) (
        (starts_short v (r.0 ∷ rs) round.starts, omega arith),
        fits,
        corners_go es ms ls differ listed bordered done rest left (v ∷ vs) corners
            (cycle (suc r.0 ∷ map suc rs) ∷ lines) next (omega (arith, count)) rises.0 rises.1 lie.1 on,
      )
  corners_go es ms ls differ listed bordered done rest (v ∷ left) vs (Path (r ∷ rows) ∷ corners) lines stage count above rises lie on =
      let d : ShellRows = shell_of s in
      let rs : List ℕ = row_numbers rows in
      let way : IsPath d v r.0 rs = lie.0 in
      let starts : row_start (row_named d (suc r.0)) ≡ Some v = ap row_start way.starts.0.1 ∙ ap Some way.starts.0.2 in
      let whole : length (suc r.0 ∷ map suc rs) ≡ start_count d v = omega (arith, way.once, length-map rs suc) in
      let ends : Contains ls (last_of (suc r.0) (map suc rs)) =
      Contains-from_Has ls (last_of (suc r.0) (map suc rs)) (subst (Has ls) (sym (last_suc r.0 rs)) (bordered (last_of r.0 rs) way.ends)) in
      let next : Stage s (path (suc r.0 ∷ map suc rs) ∷ lines) b es (v ∷ vs) [] [] ms ls [] = path_stage s lines b es vs [] [] ms ls [] stage v (suc r.0)
      (map suc rs) starts in
      let fits = path_fits s lines b es vs [] [] ms ls [] stage v (suc r.0) (map suc rs) done (omega (arith, count)) starts
      (chain_suc ms listed r.0 rs way.turns) ends whole way.no_point above.0 in
      subst (λ ns. Follow s lines (path ns ∷ (map corner_line corners ++ rest))) (named_rows (r ∷ rows)) (
        (starts_short v (r.0 ∷ rs) way.starts, omega arith),
        fits,
        corners_go es ms ls differ listed bordered done rest left (v ∷ vs) corners
            (path (suc r.0 ∷ map suc rs) ∷ lines) next (omega (arith, count)) rises.0 rises.1 lie.1 on,
      )
  corners_go es ms ls differ listed bordered done rest (v ∷ left) vs (Point at ∷ corners) lines stage count above rises lie on =
      let d : ShellRows = shell_of s in
      let named = point_lies v at differ lie.0.1 in
      let next : Stage s (point (at.face.0 + 1) (at.place + 1) ∷ lines) b es (v ∷ vs) [] [] ms ls [] =
      point_stage s lines b es vs [] [] ms ls [] stage v (at.face.0 + 1) (at.place + 1) named.0 in
      let fits = point_fits s lines b es vs [] [] ms ls [] stage v (at.face.0 + 1) (at.place + 1) done (omega (arith, count)) named.0
      (none_start d v lie.0.0.no_row) lie.0.0.one_point above.0 in (
        ((named.1, (named.2, tt)), tt),
        fits,
        corners_go es ms ls differ listed bordered done rest left (v ∷ vs) corners
            (point (at.face.0 + 1) (at.place + 1) ∷ lines) next (omega (arith, count)) rises.0 rises.1 lie.1 on,
      )

  -- The lines of the faces fit, if those behind them do.
  pub reach_go : (es vs : List ℕ) (ms : List (ℕ × ℕ)) (ls : List ℕ) → ((r m : ℕ) → AreMates (shell_of s) r m → IsMate ms (suc r) (suc m))
      → length (shell_of s).edges ≤ length es → length (shell_of s).vertices ≤ length vs
      → (rest : List OpenLine) (rows : List RowId) (known fs : List ℕ) (lines : List OpenLine) → Stage s lines b es vs fs [] ms ls []
      → length fs + length rows ≡ (shell_of s).face_count - 1 → ReachFrom (shell_of s) known (row_numbers rows)
      → ((f : ℕ) → Contains known f → Has (0 ∷ fs) f) → ((f : ℕ) → Has (0 ∷ fs) f → Contains known f)
      → ((fs' : List ℕ) (lines' : List OpenLine) → Stage s lines' b es vs fs' [] ms ls [] → (shell_of s).face_count - 1 ≤ length fs' → Follow s lines' rest)
      → Follow s lines (map reach_line rows ++ rest)
  reach_go es vs ms ls listed edges_done corners_done rest [] known fs lines stage count order into back on = on fs lines stage (omega (arith, count))
  reach_go es vs ms ls listed edges_done corners_done rest (r ∷ rows) known fs lines stage count order into back on =
      let d : ShellRows = shell_of s in
      let face : ℕ = order.0 in
      let one : ReachesOne d known r.0 face = order.1 in
      let on_f : row_face (row_named d (suc r.0)) ≡ Some face = ap row_face one.on_face.1 ∙ ap Some one.on_face.2 in
      let next : Stage s (reach (suc r.0) ∷ lines) b es vs (face ∷ fs) [] ms ls [] = reach_stage s lines b es vs fs [] ms ls [] stage (suc r.0) face on_f in
      let fits = reach_fits s lines b es vs fs [] ms ls [] stage (suc r.0) (suc one.mate) face one.from edges_done corners_done (omega (arith, count))
      (listed r.0 one.mate one.mates) on_f
      (ap row_face one.on_known.1 ∙ ap Some one.on_known.2) (λ h. one.new (back face h)) (into one.from one.old) in
      subst (λ n. Follow s lines (reach n ∷ (map reach_line rows ++ rest))) (one_more r) (
        ((short_row d small r.0 one.on_face.0 one.on_face.1, tt), tt),
        fits,
        reach_go es vs ms ls listed edges_done corners_done rest rows (face ∷ known) (face ∷ fs) (reach (suc r.0) ∷ lines) next (omega (arith, count)) order.2
            (λ f m. ⊎_elim (λ e. inr (inl e)) (λ h. ⊎_elim (λ e. inl e) (λ t. inr (inr t)) (into f (Contains-from_Has known f h)))
            (Has-from_Contains (face ∷ known) f m))
            (λ f h. Contains-from_Has (face ∷ known) f
            (⊎_elim (λ e. inr (Has-from_Contains known f (back f (inl e))))
            (λ t. ⊎_elim (λ e. inl e) (λ u. inr (Has-from_Contains known f (back f (inr u)))) t) h))
            on,
      )

  border_short : (xs : List ℕ) → AllByRecursion (IsBorder (shell_of s)) xs → AllByRecursion IsShort (map suc xs)
  border_short [] h = tt
  border_short (x ∷ xs) h = (short_row (shell_of s) small x h.0.0 h.0.1, border_short xs h.1)

  border_listed : (ls : List ℕ) → ((r : ℕ) → IsBorder (shell_of s) r → Has ls (suc r)) → (xs : List ℕ) → AllByRecursion (IsBorder (shell_of s)) xs
      → AllByRecursion (Contains ls) (map suc xs)
  border_listed ls bordered [] h = tt
  border_listed ls bordered (x ∷ xs) h = (Contains-from_Has ls (suc x) (bordered x h.0), border_listed ls bordered xs h.1)

  goes_suc : (xs ys : List ℕ) → AllZip (GoesOn (shell_of s)) xs ys → AllZip (GoesOnTo (shell_of s)) (map suc xs) (map suc ys)
  goes_suc [] [] h = tt
  goes_suc [] (y ∷ ys) h = h
  goes_suc (x ∷ xs) [] h = h
  goes_suc (x ∷ xs) (y ∷ ys) h = (h.0, goes_suc xs ys h.1)

  -- The lines of the border rows fit, if those behind them do.
  pub borders_go : (es vs fs : List ℕ) (ms : List (ℕ × ℕ)) (ls : List ℕ) → ((r : ℕ) → IsBorder (shell_of s) r → Has ls (suc r))
      → length (shell_of s).edges ≤ length es → length (shell_of s).vertices ≤ length vs → (shell_of s).face_count - 1 ≤ length fs
      → (rest : List OpenLine) (cycles : List (List RowId)) (bs rows : List ℕ) (lines : List OpenLine) → Stage s lines b es vs fs bs ms ls rows
      → length bs + length cycles ≡ b
      → AllByRecursion (IsBorderCycleOf (shell_of s)) (map row_numbers cycles)
      → AllByRecursion (λ z. IsAbove (first_of bs) z) (map suc (map first_in (map row_numbers cycles))) → Rises (map first_in (map row_numbers cycles))
      → ((bs' rows' : List ℕ) (lines' : List OpenLine) → Stage s lines' b es vs fs bs' ms ls rows' → b ≤ length bs'
      → length rows' ≡ length rows + length (flat (map row_numbers cycles)) → Follow s lines' rest)
      → Follow s lines (map border_line cycles ++ rest)
  borders_go es vs fs ms ls bordered edges_done corners_done reach_done rest [] bs rows lines stage count each above rises on =
      on bs rows lines stage (omega (arith, count)) (omega arith)
  borders_go es vs fs ms ls bordered edges_done corners_done reach_done rest ([] ∷ cycles) bs rows lines stage count each above rises on = absurd each.0
  borders_go es vs fs ms ls bordered edges_done corners_done reach_done rest ((r ∷ more) ∷ cycles) bs rows lines stage count each above rises on =
      let d : ShellRows = shell_of s in
      let rs : List ℕ = row_numbers more in
      let ring : IsBorderCycle d r.0 rs = each.0 in
      let goes = subst (λ ys. AllZip (GoesOnTo d) (suc r.0 ∷ map suc rs) ys) (map-suc-append rs r.0) (goes_suc (r.0 ∷ rs) (rs ++ r.0 ∷ []) ring.goes_on) in
      let next : Stage s (border (suc r.0 ∷ map suc rs) ∷ lines) b es vs fs (suc r.0 ∷ bs) ms ls ((suc r.0 ∷ map suc rs) ++ rows) =
      border_stage s lines b es vs fs bs ms ls rows stage (suc r.0) (map suc rs) in
      let fits = border_fits s lines b es vs fs bs ms ls rows stage (suc r.0) (map suc rs) edges_done corners_done reach_done (omega (arith, count))
      (border_listed ls bordered (r.0 ∷ rs) ring.border) goes (above_suc r.0 rs ring.least) above.0 in
      subst (λ ns. Follow s lines (border ns ∷ (map border_line cycles ++ rest))) (named_rows (r ∷ more)) (
        (border_short (r.0 ∷ rs) ring.border, omega arith),
        fits,
        borders_go es vs fs ms ls bordered edges_done corners_done reach_done rest cycles (suc r.0 ∷ bs) ((suc r.0 ∷ map suc rs) ++ rows)
            (border (suc r.0 ∷ map suc rs) ∷ lines) next (omega (arith, count)) each.1
            (above_suc r.0 (map first_in (map row_numbers cycles)) rises.0) rises.1
            (λ bs' rows' lines' stage' done size.
            on bs' rows' lines' stage' done
            (omega (arith, size, length-append (suc r.0 ∷ map suc rs) rows, length-map rs suc, length-append (r.0 ∷ rs) (flat (map row_numbers cycles))))),
      )

-- What is listed.

pub listed_mates : (d : ShellRows) (ms : List (ℕ × ℕ)) (ls : List ℕ) → AreOnce d → AreGoodRows d → ((e : ℕ) → Has d.edges e → ListedAt d ms ls e) → (r m : ℕ)
    → AreMates d r m → IsMate ms (suc r) (suc m)
listed_mates d ms ls once good listed r m h =
    let known : Has d.edges h.row.edge.0 = row_has (λ (x : Row). Has d.edges x.edge.0) d.rows r h.row good.edges h.at_r in
    ⊎_elim (λ k. by_way k h.row.along refl) (λ k. absurd (lone_no_mate d r m h.row h.at_r k.5 h)) (listed h.row.edge.0 known)
  where
    by_way : MatedAt d ms h.row.edge.0 → (w : Bool) → h.row.along ≡ w → IsMate ms (suc r) (suc m)
    by_way k true w =
        let there : AreMates d k.1 k.0 =
        record {
          row = k.3;
          mate = k.2;
          at_r = k.6;
          at_m = k.5;
          one_edge = edge_id k.3.edge k.2.edge (k.8 ∙ sym k.7);
          opposite =
              k.10 ∙ ap not (sym k.9);
        } in
        let here : AreMates d k.1 r =
        record { row = k.3; mate = h.row; at_r = k.6; at_m = h.at_r; one_edge = edge_id k.3.edge h.row.edge k.8; opposite = k.10 ∙ ap not (sym w) } in
        let first : k.0 ≡ r = one_mate_of d (row_once d once) k.1 k.0 r there here in
        let back : AreMates d k.0 k.1 =
        record {
          row = k.2;
          mate = k.3;
          at_r = k.5;
          at_m = k.6;
          one_edge = edge_id k.2.edge k.3.edge (k.7 ∙ sym k.8);
          opposite =
              k.9 ∙ ap not (sym k.10);
        } in
        let second : k.1 ≡ m = one_mate_of d (row_once d once) k.0 k.1 m back (subst (λ x. AreMates d x m) (sym first) h) in
        inl (Contains-from_Has ms (suc r, suc m) (subst (λ x. Has ms (suc x, suc m)) first (subst (λ y. Has ms (suc k.0, suc y)) second k.4)))
    by_way k false w =
        let there : AreMates d k.0 k.1 =
        record {
          row = k.2;
          mate = k.3;
          at_r = k.5;
          at_m = k.6;
          one_edge = edge_id k.2.edge k.3.edge (k.7 ∙ sym k.8);
          opposite =
              k.9 ∙ ap not (sym k.10);
        } in
        let here : AreMates d k.0 r =
        record { row = k.2; mate = h.row; at_r = k.5; at_m = h.at_r; one_edge = edge_id k.2.edge h.row.edge k.7; opposite = k.9 ∙ ap not (sym w) } in
        let first : k.1 ≡ r = one_mate_of d (row_once d once) k.0 k.1 r there here in
        let back : AreMates d k.1 k.0 =
        record {
          row = k.3;
          mate = k.2;
          at_r = k.6;
          at_m = k.5;
          one_edge = edge_id k.3.edge k.2.edge (k.8 ∙ sym k.7);
          opposite =
              k.10 ∙ ap not (sym k.9);
        } in
        let second : k.0 ≡ m = one_mate_of d (row_once d once) k.1 k.0 m back (subst (λ x. AreMates d x m) (sym first) h) in
        inr (Contains-from_Has ms (suc m, suc r) (subst (λ x. Has ms (suc x, suc r)) second (subst (λ y. Has ms (suc k.0, suc y)) first k.4)))

pub listed_border : (d : ShellRows) (ms : List (ℕ × ℕ)) (ls : List ℕ) → AreGoodRows d → ((e : ℕ) → Has d.edges e → ListedAt d ms ls e) → (r : ℕ) → IsBorder d r
    → Has ls (suc r)
listed_border d ms ls good listed r (row, at, one) =
    let known : Has d.edges row.edge.0 = row_has (λ (x : Row). Has d.edges x.edge.0) d.rows r row good.edges at in
    ⊎_elim
    (λ k. absurd (both_ways_counted d row.edge.0 one (counted_way d row.edge.0 true k.0 k.2 k.5 k.7 k.9) (counted_way d row.edge.0 false k.1 k.3 k.6 k.8 k.10)))
    (λ k. let p : Row → Bool = λ y. y.edge.0 == row.edge.0 in
    let same : k.0 ≡ r = one_place p d.rows (sym (count_by-total p d.rows) ∙ one) k.0 r k.1 row k.3 at (eq-eqb k.1.edge.0 row.edge.0 k.4)
    (eq-eqb row.edge.0 row.edge.0 refl) in
    subst (λ x. Has ls (suc x)) same k.2)
    (listed row.edge.0 known)
