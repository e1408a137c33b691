-- A sound open shell has the parts of a certificate.
use Rattle.std.specs.Prelude.{◌≡◌, ◌↔◌, ℕ, zero, suc, ◌+◌, ◌-◌, ◌<◌, ◌≤◌, ◌==◌, ◌&&◌, ◌⊎◌, Bool, true, false, not, List, [], ◌∷◌, ◌++◌, length, map, count_by}
use Rattle.std.specs.Prelude.{Option, Some, None, slice_get, slice_set}
use Rattle.std.specs.List.{AllByRecursion, AllZip}
use Rattle.std.proofs.Common.{refl, sym, ◌∙◌, ap, subst, arith, inl, inr, ⊎_elim, length-append, append_assoc, get_or}
use Rattle.std.proofs.lemmas.Bool.{eqb-true, and_parts, cases_lt}
use Rattle.std.proofs.lemmas.List.{append-nil, length-set}
use Rattle.solid_data.specs.Chain.{Steps}
use Rattle.solid_data.specs.Ring.{numbers_from}
use Rattle.solid_data.specs.declared.solid.LoopAt.{LoopAt}
use Rattle.solid_data.specs.declared.solid.RowId.{RowId}
use Rattle.solid_data.proofs.Members.{Has, Has-from_Contains, Contains-from_Has, no_longer, rises_none, count_by-total, All-at}
use Rattle.solid_data.proofs.Occurring.{numbers_rise, length-numbers}
use Rattle.std.proofs.lemmas.Option.{slice_get_within}
use Rattle.solid_data.proofs.Trail.{trail_keeps}
use Rattle.edge_uses.specs.declared.row.Row.{Row}
use Rattle.edge_uses.specs.ShellRows.{ShellRows}
use Rattle.edge_uses.specs.RowRelations.{AreMates, Turns, StartsAt, OnFace}
use Rattle.edge_uses.specs.Around.{AreNeighbours, IsReached}
use Rattle.edge_uses.proofs.Counting.{found_row}
use Rattle.edge_uses.proofs.Cycle.{same_or_not}
use Rattle.edge_uses.proofs.Turns.{mates_back, follows_onto}
use Rattle.topo_certificate.proofs.Build.{found_point, decide_has, outsider, leaving}
use Rattle.open_certificate.specs.Sound.{IsBorder, IsOnce, IsFan, IsFanned}
use Rattle.open_shells.specs.Mating.{AreRowsOf, AreOnce}
use Rattle.open_shells.specs.FanParts.{LiesAt, IsCycleOf, IsPathOf, IsHeadOf}
use Rattle.shell_reach.specs.Reaching.{ReachFrom, ReachesOne, ReachesAll, row_numbers}
use Rattle.open_shells.specs.BorderParts.{Next, IsLoop, flat, AreBorderCycles, IsBordering}
use Rattle.open_certificate.specs.declared.parts.OpenEdge.{OpenEdge}
use Rattle.open_certificate.specs.declared.parts.OpenEdge.TheVariants.{One, Two}
use Rattle.open_certificate.specs.declared.parts.OpenCorner.{OpenCorner}
use Rattle.open_certificate.specs.declared.parts.OpenCorner.TheVariants.{Cycle, Path, Point}
use Rattle.open_certificate.proofs.Fans.{lone_no_mate}
use Rattle.open_shells.proofs.OnceMates.{border_or_mate}
use Rattle.open_shells.proofs.FanWalks.{turn_same, rows_at, at_listed, listed_at, counted_rows, Walked, walked_more, back_early, not_back, back_in_time}
use Rattle.open_shells.proofs.FanWalks.{path_whole, Begins, path_short, back_least}
use Rattle.open_shells.proofs.BorderRows.{no_turn_before, start_there, next_is, Passed, passed_more, loop_closed, never_back}
use Rattle.open_shells.proofs.BorderLoops.{bordering_skips, bordering_adds, bordering_done, bordering_none, marks_more}

abbrev ids_of : List ℕ → List RowId
ids_of [] = []
ids_of (n ∷ ns) = record { 0 = n } ∷ ids_of ns

numbers_of_ids : (ns : List ℕ) → row_numbers (ids_of ns) ≡ ns
numbers_of_ids [] = refl
numbers_of_ids (n ∷ ns) = ap (λ xs. n ∷ xs) (numbers_of_ids ns)

-- The edges.

edge_made : (d : ShellRows) (e : ℕ) → IsOnce d e → (o : OpenEdge) × AreRowsOf d e o
edge_made d e (inl one) =
    let p : Row → Bool = λ r. r.edge.0 == e in
    let f = found_row p d.rows (omega (arith, one, count_by-total p d.rows)) in
    (One (record { 0 = f.0 }), (f.1.along, record { row = f.1; at = f.2; edge = eqb-true f.1.edge.0 e f.3; along = refl }, one))
edge_made d e (inr pair) =
    let p : Row → Bool = λ r. (r.edge.0 == e) && r.along in
    let q : Row → Bool = λ r. (r.edge.0 == e) && not r.along in
    let f = found_row p d.rows (omega (arith, pair.0, count_by-total p d.rows)) in
    let g = found_row q d.rows (omega (arith, pair.1, count_by-total q d.rows)) in
    let a = and_parts (f.1.edge.0 == e) f.1.along f.3 in
    let b = and_parts (g.1.edge.0 == e) (not g.1.along) g.3 in (
      Two (record { 0 = f.0 }) (record { 0 = g.0 }),
      (
        record { row = f.1; at = f.2; edge = eqb-true f.1.edge.0 e a.0; along = a.1 },
        record { row = g.1; at = g.2; edge = eqb-true g.1.edge.0 e b.0; along = not-true g.1.along b.1 },
      ),
    )
  where
    not-true : (b : Bool) → not b ≡ true → b ≡ false
    not-true true h = absurd cc
    not-true false h = refl

pub edges_made : (d : ShellRows) (es : List ℕ) → AllByRecursion (IsOnce d) es → (parts : List OpenEdge) × AllZip (AreRowsOf d) es parts
edges_made d [] h = ([], tt)
edges_made d (e ∷ es) h = let o = edge_made d e h.0 in let rest = edges_made d es h.1 in (o.0 ∷ rest.0, (o.1, rest.1))

-- The vertices.

least_in : (x : ℕ) (xs : List ℕ) → (m : ℕ) × Has (x ∷ xs) m × ((y : ℕ) → Has (x ∷ xs) y → m ≤ y)
least_in x [] = (x, inl refl, λ y h. ⊎_elim (λ e. omega (arith, e)) (λ z. absurd z) h)
least_in x (w ∷ ws) =
    let k = least_in w ws in
    ⊎_elim (λ lt. (x, inl refl, λ y h. ⊎_elim (λ e. omega (arith, e)) (λ m. let low = k.2 y m in omega (arith, lt, low)) h))
    (λ le. (k.0, inr k.1, λ y h. ⊎_elim (λ e. omega (arith, e, le)) (λ m. k.2 y m) h))
    (cases_lt x k.0)

least_of : (xs : List ℕ) (x : ℕ) → Has xs x → (m : ℕ) × Has xs m × ((y : ℕ) → Has xs y → m ≤ y)
least_of [] x h = absurd h
least_of (y ∷ ys) x h = least_in y ys

has_some : (xs : List ℕ) (x : ℕ) → Has xs x → 0 < length xs
has_some [] x h = absurd h
has_some (y ∷ ys) x h = omega arith

-- a row to which none turns, or one turns to each
find_head : (d : ShellRows) → AreOnce d → (v : ℕ) (xs : List ℕ) → ((x : ℕ) → Has xs x → StartsAt d v x)
    → ((h : ℕ) × IsHeadOf d v (Some h)) ⊎ ((x : ℕ) → Has xs x → (t : ℕ) × Turns d t x)
find_head d whole v [] start = inr (λ x m. absurd m)
find_head d whole v (x ∷ xs) start =
    let at_v : StartsAt d v x = start x (inl refl) in
    let q = follows_onto d whole.rows x at_v.0 at_v.1 in
    ⊎_elim (λ border. inl (x, (at_v, λ t turn. no_turn_before d whole q.0 x t border q.2 turn)))
    (λ m. ⊎_elim (λ h. inl h)
    (λ all. inr (λ y k. ⊎_elim (λ e. subst (λ z. (t : ℕ) × Turns d t z) e (m.0, (q.0, mates_back d q.0 m.0 m.1, q.2))) (λ h. all y h) k))
    (find_head d whole v xs (λ y k. start y (inr k))))
    (border_or_mate d whole q.0 q.1 q.3)

head_of : (d : ShellRows) → AreOnce d → (v : ℕ) → (o : Option ℕ) × IsHeadOf d v o
head_of d whole v = ⊎_elim (λ h. (Some h.0, h.1)) (λ all. (None, λ x at. all x (at_listed d v x at)))
    (find_head d whole v (rows_at d v) (λ x m. listed_at d v x m))

begin_at : (d : ShellRows) (v : ℕ) (o : Option ℕ) → IsHeadOf d v o → (r : ℕ) → StartsAt d v r → (first : ℕ) × StartsAt d v first × Begins d v o first
begin_at d v None head r at = let k = least_of (rows_at d v) r (at_listed d v r at) in (k.0, listed_at d v k.0 k.1, λ x at_x. k.2 x (at_listed d v x at_x))
begin_at d v (Some h) head r at = (h, head.0, refl)

-- the walk comes back, or to a border row
walk_made : (d : ShellRows) → AreOnce d → (v first count : ℕ) → StartsAt d v first → count ≡ count_by (λ (r : Row). r.from.0 == v) d.rows → 0 < count
    → (n : ℕ) (rs : List ℕ) (at : ℕ) → length rs + n ≡ count → Walked d first rs at → (0 < length rs → at ≡ first → ⊥) → StartsAt d v at
    → (rs' : List ℕ) × (at' : ℕ) × Walked d first rs' at' × StartsAt d v at'
    × (((at' ≡ first) × (0 < length rs') × (length rs' ≤ count)) ⊎ (IsBorder d at' × (length rs' + 1 ≤ count)))
walk_made d whole v first count start counted some zero rs at long w away at_v =
    absurd (not_back d v first count rs at whole start counted some (omega (arith, long)) (away (omega (arith, long, some))) at_v w)
walk_made d whole v first count start counted some (suc n) rs at long w away at_v =
    ⊎_elim (λ border. (rs, at, w, at_v, inr (border, omega (arith, long))))
    (λ m. let g = whole.rows.followed m.0 m.1.mate m.1.at_m in
    let turn : Turns d at g.0 = (m.0, m.1, g.2) in
    let on : Walked d first (rs ++ at ∷ []) g.0 = walked_more d first rs at g.0 w away turn in
    let there : StartsAt d v g.0 = turn_same d whole v at g.0 turn at_v in
    let more : length (rs ++ at ∷ []) ≡ length rs + 1 = length-append rs (at ∷ []) in
    ⊎_elim (λ e. (rs ++ at ∷ [], g.0, on, there, inl (e, omega (arith, more), omega (arith, more, long))))
    (λ ne. walk_made d whole v first count start counted some n (rs ++ at ∷ []) g.0 (omega (arith, more, long)) on (λ lt e. ne e) there)
    (same_or_not g.0 first))
    (border_or_mate d whole at at_v.0 at_v.1)

fan_made : (d : ShellRows) → AreOnce d → (v : ℕ) → IsFan d v → (o : OpenCorner) × LiesAt d v o
fan_made d whole v fan =
    let head = head_of d whole v in
    let b = begin_at d v head.0 head.1 fan.some.0 fan.some.1 in
    let first : ℕ = b.0 in
    let count : ℕ = count_by (λ (r : Row). r.from.0 == v) d.rows in
    let some : 0 < count = (let k = has_some (rows_at d v) first (at_listed d v first b.1) in omega (arith, k, counted_rows d v)) in
    let k = walk_made d whole v first count b.1 refl some count [] first (omega arith) refl (λ lt. absurd (omega (arith, lt))) b.1 in
    ⊎_elim
    (λ back.
    let long : length k.0 ≡ count = ⊎_elim (λ early. absurd (back_early d v first count k.0 k.1 whole b.1 refl back.1 early back.0 k.2 fan))
    (λ ge. omega (arith, ge, back.2)) (cases_lt (length k.0) count) in
    let cycle : IsCycleOf d v k.0 =
    (back_in_time d v first count k.0 k.1 whole b.1 (back_least d v first head.0 k.0 k.1 head.1 b.2 back.1 back.0 k.2) refl some long back.0 k.2
    fan.no_point).0 in
    (Cycle (ids_of k.0), subst (IsCycleOf d v) (sym (numbers_of_ids k.0)) cycle))
    (λ out.
    let long : length k.0 + 1 ≡ count = ⊎_elim (λ short. absurd (path_short d v first count head.0 k.0 k.1 whole b.1 head.1 b.2 refl short out.0 k.3 k.2 fan))
    (λ ge. omega (arith, ge, out.1)) (cases_lt (length k.0 + 1) count) in
    let path : IsPathOf d v (k.0 ++ k.1 ∷ []) = (path_whole d v first count k.0 (k.0 ++ k.1 ∷ []) k.1 whole b.1 refl long out.0 k.2 refl fan.no_point).0 in
    (Path (ids_of (k.0 ++ k.1 ∷ [])), subst (IsPathOf d v) (sym (numbers_of_ids (k.0 ++ k.1 ∷ []))) path))
    k.4

corner_made : (d : ShellRows) → AreOnce d → (v : ℕ) → IsFanned d v → (o : OpenCorner) × LiesAt d v o
corner_made d whole v (inl fan) = fan_made d whole v fan
corner_made d whole v (inr spot) =
    let f = found_point (λ (p : LoopAt × ℕ). p.1 == v) d.points (omega (arith, spot.one_point, count_by-total (λ (p : LoopAt × ℕ). p.1 == v) d.points)) in
    (Point f.0.0, (spot, Contains-from_Has d.points (f.0.0, v) (subst (λ w. Has d.points (f.0.0, w)) (eqb-true f.0.1 v f.2) f.1)))

pub corners_made : (d : ShellRows) → AreOnce d → (vs : List ℕ) → AllByRecursion (IsFanned d) vs → (corners : List OpenCorner) × AllZip (LiesAt d) vs corners
corners_made d whole [] h = ([], tt)
corners_made d whole (v ∷ vs) h = let o = corner_made d whole v h.0 in let rest = corners_made d whole vs h.1 in (o.0 ∷ rest.0, (o.1, rest.1))

-- The faces.

reach_more : (d : ShellRows) → AreOnce d → AllByRecursion (IsReached d) (numbers_from 0 d.face_count) → (left : ℕ) (known : List ℕ) → Has known 0
    → length known + left ≡ d.face_count → (rows : List ℕ) × ReachFrom d known rows × (length rows ≡ left)
reach_more d whole reached zero known first count = ([], tt, refl)
reach_more d whole reached (suc left) known first count =
    let faces : List ℕ = numbers_from 0 d.face_count in
    ⊎_elim
    (λ o. let chain = All-at (IsReached d) faces reached o.0 o.1 in
    let c = leaving (AreNeighbours d) known chain.0 0 o.0 chain.1 first o.2 in
    let mates : AreMates d c.4.0 c.4.1 = c.4.2 in
    let on_g : OnFace d c.0 c.4.0 = c.4.3 in
    let on_h : OnFace d c.1 c.4.1 = c.4.4 in
    let one : ReachesOne d known c.4.1 c.1 = record {
      mate = c.4.0;
      from = c.0;
      mates = mates_back d c.4.0 c.4.1 mates;
      on_face = on_h;
      on_known = on_g;
      new = λ h. c.3 (Has-from_Contains known c.1 h);
      old = Contains-from_Has known c.0 c.2;
    } in
    let rest = reach_more d whole reached left (c.1 ∷ known) (inr first) (omega (arith, count)) in
    (c.4.1 ∷ rest.0, (c.1, one, rest.1), ap suc rest.2))
    (λ all. absurd (let h = no_longer faces known (rises_none faces (numbers_rise 0 d.face_count)) all in omega
    (arith, h, length-numbers 0 d.face_count, count)))
    (outsider faces known)

pub reach_made : (d : ShellRows) → AreOnce d → AllByRecursion (IsReached d) (numbers_from 0 d.face_count)
    → (rows : List RowId) × ReachesAll d (row_numbers rows)
reach_made d whole reached = by_count (cases_lt 0 d.face_count)
  where
    by_count : (0 < d.face_count) ⊎ (d.face_count ≤ 0) → (rows : List RowId) × ReachesAll d (row_numbers rows)
    by_count (inr none) = ([], record { order = tt; count = omega (arith, none); reached = reached })
    by_count (inl some) =
        let k = reach_more d whole reached (d.face_count - 1) (0 ∷ []) (inl refl) (omega (arith, some)) in
        (ids_of k.0, subst (ReachesAll d) (sym (numbers_of_ids k.0)) (record { order = k.1; count = k.2; reached = reached }))

-- The border rows.

find_border : (d : ShellRows) → AreOnce d → (v : ℕ) (xs : List ℕ) → ((x : ℕ) → Has xs x → StartsAt d v x) → ((x : ℕ) × IsBorder d x × StartsAt d v x)
    ⊎ ((x : ℕ) → Has xs x → IsBorder d x → ⊥)
find_border d whole v [] start = inr (λ x m. absurd m)
find_border d whole v (x ∷ xs) start =
    let at_v : StartsAt d v x = start x (inl refl) in
    ⊎_elim (λ border. inl (x, border, at_v))
    (λ m. ⊎_elim (λ h. inl h)
    (λ none. inr (λ y k border. ⊎_elim (λ e. (let b : IsBorder d x = subst (IsBorder d) (sym e) border in lone_no_mate d x m.0 b.0 b.1 b.2 m.1))
    (λ h. none y h border) k)) (find_border d whole v xs (λ y k. start y (inr k))))
    (border_or_mate d whole x at_v.0 at_v.1)

next_made : (d : ShellRows) → AreOnce d → (at : ℕ) → IsBorder d at → (n : ℕ) × Next d at n
next_made d whole at border =
    let row : Row = border.0 in
    let v : ℕ = row.to.0 in
    ⊎_elim (λ f. (f.0, next_is d at f.0 row (Some f.0) border border.1 (f.1, f.2) refl))
    (λ none. absurd (start_there d v at row whole border border.1 refl (λ r b s. none r (at_listed d v r s) b)))
    (find_border d whole v (rows_at d v) (λ x m. listed_at d v x m))

loop_made : (d : ShellRows) → AreOnce d → AllByRecursion (IsFanned d) d.vertices → (first : ℕ) → IsBorder d first → (n : ℕ) (rs : List ℕ) (at : ℕ)
    → length rs + n ≡ length d.rows → Passed d first rs at → (0 < length rs → at ≡ first → ⊥) → IsBorder d at → (all : List ℕ) × IsLoop d first all
loop_made d whole fanned first border zero rs at long w away border_at =
    absurd (never_back d first rs at whole fanned border border_at (omega (arith, long)) away w)
loop_made d whole fanned first border (suc n) rs at long w away border_at =
    let y = next_made d whole at border_at in
    ⊎_elim (λ e. (rs ++ at ∷ [], loop_closed d first rs (rs ++ at ∷ []) at y.0 w away y.1 e refl))
    (λ ne. loop_made d whole fanned first border n (rs ++ at ∷ []) y.0 (omega (arith, long, length-append rs (at ∷ [])))
    (passed_more d first rs at y.0 w away y.1) (λ lt e. ne e) y.1.1)
    (same_or_not y.0 first)

-- marks of some rows
marks_made : (old seen : List Bool) (rows rest : List ℕ) → ((x : ℕ) → (get_or seen x false ≡ true) ↔ ((get_or old x false ≡ true) ⊎ Has rows x))
    → length seen ≡ length old → ((y : ℕ) → Has rest y → y < length old)
    → (new : List Bool) × (length new ≡ length old) × ((x : ℕ) → (get_or new x false ≡ true) ↔ ((get_or old x false ≡ true) ⊎ Has (rows ++ rest) x))
marks_made old seen rows [] marks long low =
    (seen, long, λ x. subst (λ ys. (get_or seen x false ≡ true) ↔ ((get_or old x false ≡ true) ⊎ Has ys x)) (sym (append-nil rows)) (marks x))
marks_made old seen rows (r ∷ rest) marks long low =
    let lt : r < length old = low r (inl refl) in
    let k = marks_made old (slice_set seen r true) (rows ++ r ∷ []) rest
    (marks_more old seen (slice_set seen r true) rows (rows ++ r ∷ []) r (omega (arith, lt, long)) refl refl marks) (length-set seen r true ∙ long)
    (λ y m. low y (inr m)) in
    (k.0, k.1, λ x. subst (λ ys. (get_or k.0 x false ≡ true) ↔ ((get_or old x false ≡ true) ⊎ Has ys x)) (append_assoc rows (r ∷ []) rest) (k.2 x))

row_there : (rows : List Row) (i : ℕ) → i < length rows → (r : Row) × (slice_get rows i ≡ Some r)
row_there [] i lt = absurd (omega (arith, lt))
row_there (r ∷ rows) zero lt = (r, refl)
row_there (r ∷ rows) (suc i) lt = row_there rows i (omega (arith, lt))

loop_low : (d : ShellRows) (i : ℕ) (all : List ℕ) → IsBorder d i → IsLoop d i all → (y : ℕ) → Has all y → y < length d.rows
loop_low d i [] border loop y m = absurd loop
loop_low d i (x ∷ xs) border loop y m =
    let here : IsBorder d y =
    ⊎_elim (λ e. subst (IsBorder d) (sym loop.0 ∙ e) border) (λ h. trail_keeps (Next d) (IsBorder d) (λ u v n p. n.1) i xs i loop.1 border y h) m in
    slice_get_within d.rows y here.0 here.1

cycles_made : (d : ShellRows) → AreOnce d → AllByRecursion (IsFanned d) d.vertices → (n i : ℕ) (seen : List Bool) (cycles : List (List ℕ))
    → i + n ≡ length d.rows → IsBordering d i seen cycles → (all : List (List ℕ)) × AreBorderCycles d all
cycles_made d whole fanned zero i seen cycles long b = (cycles, bordering_done d i seen cycles (omega (arith, long)) b)
cycles_made d whole fanned (suc n) i seen cycles long b =
    let r = row_there d.rows i (omega (arith, long)) in
    let on : (new : List Bool) (more : List (List ℕ)) → IsBordering d (i + 1) new more → (all : List (List ℕ)) × AreBorderCycles d all =
    λ new more next. cycles_made d whole fanned n (i + 1) new more (omega (arith, long)) next in
    ⊎_elim
    (λ border.
    ⊎_elim (λ h. on seen cycles (bordering_skips d i seen cycles (λ x. h) b))
    (λ none.
    let l = loop_made d whole fanned i border (length d.rows) [] i (omega arith) refl (λ lt. absurd (omega (arith, lt))) border in
    let k = marks_made seen seen [] l.0 (λ x. ((λ m. inl m), (λ m. ⊎_elim (λ h. h) (λ z. absurd z) m))) refl
    (λ y m. let low = loop_low d i l.0 border l.1 y m in omega (arith, low, b.long)) in
    on k.0 (cycles ++ l.0 ∷ [])
    (bordering_adds d i seen k.0 cycles (cycles ++ l.0 ∷ []) l.0 whole fanned border (λ m. none ((b.marks i).0 m)) l.1 refl k.1 k.2 b))
    (decide_has (flat cycles) i))
    (λ m. on seen cycles (bordering_skips d i seen cycles (λ border. absurd (lone_no_mate d i m.0 border.0 border.1 border.2 m.1)) b))
    (border_or_mate d whole i r.0 r.1)

abbrev falses : ℕ → List Bool
falses zero = []
falses (suc n) = false ∷ falses n

falses_long : (n : ℕ) → length (falses n) ≡ n
falses_long zero = refl
falses_long (suc n) = ap suc (falses_long n)

never_true : (n x : ℕ) → get_or (falses n) x false ≡ true → ⊥
never_true zero x h = cc
never_true (suc n) zero h = cc
never_true (suc n) (suc x) h = never_true n x h

abbrev id_lists : List (List ℕ) → List (List RowId)
id_lists [] = []
id_lists (c ∷ cs) = ids_of c ∷ id_lists cs

lists_of_ids : (cs : List (List ℕ)) → map row_numbers (id_lists cs) ≡ cs
lists_of_ids [] = refl
lists_of_ids (c ∷ cs) = ap (λ x. x ∷ map row_numbers (id_lists cs)) (numbers_of_ids c) ∙ ap (λ xs. c ∷ xs) (lists_of_ids cs)

pub borders_made : (d : ShellRows) → AreOnce d → AllByRecursion (IsFanned d) d.vertices
    → (borders : List (List RowId)) × AreBorderCycles d (map row_numbers borders)
borders_made d whole fanned =
    let n : ℕ = length d.rows in
    let k = cycles_made d whole fanned n 0 (falses n) [] (omega arith) (bordering_none d (falses n) (falses_long n) (never_true n)) in
    (id_lists k.0, subst (AreBorderCycles d) (sym (lists_of_ids k.0)) k.1)
