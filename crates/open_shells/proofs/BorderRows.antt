-- Border rows: one at most starts at each vertex, and one at most ends there, and one starts where one ends.
use Rattle.std.specs.Prelude.{◌≡◌, ◌≢◌, ◌<◌, ◌≤◌, ◌+◌, ◌-◌, ◌==◌, ◌⊎◌, ℕ, zero, suc, true, false, List, [], ◌∷◌, ◌++◌, length, slice_get, slice_set, Contains}
use Rattle.std.specs.Prelude.{Option, Some, None, MatchOption}
use Rattle.std.specs.List.{AllByRecursion}
use Rattle.std.proofs.Common.{refl, sym, ◌∙◌, ap, subst, arith, inl, inr, ⊎_elim, get_or, length-append}
use Rattle.std.proofs.lemmas.Bool.{cases_lt}
use Rattle.std.proofs.lemmas.Bool.Decides.{eqb_tells}
use Rattle.std.proofs.lemmas.Option.{same_Some, slice_get_within}
use Rattle.solid_data.specs.Chain.{Steps}
use Rattle.solid_data.specs.Ring.{numbers_from}
use Rattle.solid_data.specs.declared.solid.VertexId.{VertexId}
use Rattle.solid_data.proofs.Members.{Has, NoRepeat, no_longer, All-at, has_last, Has-from_Contains, has_get}
use Rattle.solid_data.proofs.Occurring.{numbers_have, length-numbers}
use Rattle.solid_data.proofs.Trail.{Trail, trail_keeps, no_repeat}
use Rattle.solid_data.specs.declared.spanning.Span.{Span}
use Rattle.solid_data.specs.Ranges.{IsWithin}
use Rattle.edge_uses.specs.declared.row.Row.{Row}
use Rattle.edge_uses.specs.ShellRows.{ShellRows}
use Rattle.edge_uses.specs.RowRelations.{StartsAt, Turns, AreMates, Follows}
use Rattle.edge_uses.proofs.Tallies.{set_same, set_other}
use Rattle.edge_uses.proofs.Turns.{mates_back, follows_apart}
use Rattle.open_certificate.specs.Sound.{IsBorder, IsFanned}
use Rattle.open_shells.specs.Mating.{AreOnce}
use Rattle.open_shells.specs.BorderParts.{Next, IsStartOf, IsLoop}
use Rattle.open_certificate.proofs.Fans.{lone_no_mate}
use Rattle.open_shells.proofs.OnceMates.{border_or_mate}
use Rattle.open_shells.proofs.FanWalks.{turn_apart, turn_same, stays, too_many, trail_more, trail_back, prev_on, each_on, rows_at}

-- One at most starts at a vertex.

pub start_one : (d : ShellRows) (v a b : ℕ) → IsFanned d v → IsBorder d a → IsBorder d b → StartsAt d v a → StartsAt d v b → a ≡ b
start_one d v a b (inl fan) border_a border_b at_a at_b = ⊎_elim (λ c. stays d a b border_a c) (λ c. sym (stays d b a border_b c)) (fan.one_fan a b at_a at_b)
start_one d v a b (inr spot) border_a border_b at_a at_b = absurd (spot.no_row a at_a)

vertex_fanned : (d : ShellRows) → AreOnce d → AllByRecursion (IsFanned d) d.vertices → (r : ℕ) (row : Row) → slice_get d.rows r ≡ Some row
    → IsFanned d row.from.0
vertex_fanned d whole fanned r row at =
    let has = All-at (λ (x : Row). Contains d.vertices x.from.0 × Contains d.vertices x.to.0) d.rows whole.rows.vertices_hold row (has_get d.rows r row at) in
    All-at (IsFanned d) d.vertices fanned row.from.0 (Has-from_Contains d.vertices row.from.0 has.0)

pub next_one : (d : ShellRows) → AreOnce d → AllByRecursion (IsFanned d) d.vertices → (a b c : ℕ) → Next d a b → Next d a c → b ≡ c
next_one d whole fanned a b c (border_a, border_b, (x, y, at_a, at_b, meet)) (other, border_c, (u, z, at_u, at_c, join)) =
    let same : x ≡ u = same_Some x u (sym at_a ∙ at_u) in
    let starts : z.from.0 ≡ y.from.0 = ap (λ (w : VertexId). w.0) (sym join ∙ (sym (ap (λ (r : Row). r.to) same) ∙ meet)) in
    start_one d y.from.0 b c (vertex_fanned d whole fanned b y at_b) border_b border_c (y, at_b, refl) (z, at_c, starts)

-- The row that follows a border row begins a path.

behind : (d : ShellRows) → AreOnce d → (p : ℕ) (row : Row) → slice_get d.rows p ≡ Some row → (h : ℕ) × Follows d p h × StartsAt d row.to.0 h
behind d whole p row at =
    let g = whole.rows.followed p row at in
    (g.0, g.2, (g.1, g.3, ap (λ (w : VertexId). w.0) (sym (whole.meet p g.0 row g.1 g.2 at g.3))))

pub no_turn_before : (d : ShellRows) → AreOnce d → (p h t : ℕ) → IsBorder d p → Follows d p h → Turns d t h → ⊥
no_turn_before d whole p h t border follows turn =
    let same : turn.0 ≡ p = follows_apart d whole.rows turn.0 p h turn.2 follows in
    lone_no_mate d p t border.0 border.1 border.2 (mates_back d t p (subst (AreMates d t) same turn.1))

-- a chain that comes to a row to which none turns has no step
arrives : (d : ShellRows) (n a h : ℕ) → ((t : ℕ) → Turns d t h → ⊥) → Steps (Turns d) n a h → a ≡ h
arrives d zero a h none e = e
arrives d (suc zero) a h none (c, t, e) = absurd (none a (subst (Turns d a) e t))
arrives d (suc (suc n)) a h none (c, t, rest) = let e = arrives d (suc n) c h none rest in absurd (none a (subst (Turns d a) e t))

pub next_apart : (d : ShellRows) → AreOnce d → AllByRecursion (IsFanned d) d.vertices → (a b c : ℕ) → Next d a c → Next d b c → a ≡ b
next_apart d whole fanned a b c (border_a, border_c, (x, z, at_a, at_c, meet)) (border_b, other, (y, w, at_b, at_w, join)) =
    let same : z ≡ w = same_Some z w (sym at_c ∙ at_w) in
    let ha = behind d whole a x at_a in
    let hb = behind d whole b y at_b in
    let v_a : x.to.0 ≡ z.from.0 = ap (λ (i : VertexId). i.0) meet in
    let v_b : y.to.0 ≡ z.from.0 = ap (λ (i : VertexId). i.0) (join ∙ ap (λ (r : Row). r.from) (sym same)) in
    let heads : ha.0 ≡ hb.0 = by_fan z.from.0 (vertex_fanned d whole fanned c z at_c) ha.0 hb.0 (subst (λ v. StartsAt d v ha.0) v_a ha.2)
    (subst (λ v. StartsAt d v hb.0) v_b hb.2)
    (λ t turn. no_turn_before d whole a ha.0 t border_a ha.1 turn) (λ t turn. no_turn_before d whole b hb.0 t border_b hb.1 turn) in
    follows_apart d whole.rows a b hb.0 (subst (Follows d a) heads ha.1) hb.1
  where
    by_fan : (v : ℕ) → IsFanned d v → (h k : ℕ) → StartsAt d v h → StartsAt d v k → ((t : ℕ) → Turns d t h → ⊥) → ((t : ℕ) → Turns d t k → ⊥) → h ≡ k
    by_fan v (inl fan) h k at_h at_k none_h none_k = ⊎_elim (λ c. arrives d c.0 h k none_k c.1) (λ c. sym (arrives d c.0 k h none_h c.1))
        (fan.one_fan h k at_h at_k)
    by_fan v (inr spot) h k at_h at_k none_h none_k = absurd (spot.no_row h at_h)

-- One starts where one ends.

forward : (d : ShellRows) (v h : ℕ) → AreOnce d → ((r : ℕ) → IsBorder d r → StartsAt d v r → ⊥) → StartsAt d v h → (n : ℕ)
    → (xs : List ℕ) × (z : ℕ) × Trail (Turns d) h xs z × (length xs ≡ n) × StartsAt d v z
forward d v h whole none start zero = let t = turn h start in ([], t.0, t.1, refl, turn_same d whole v h t.0 t.1 start)
  where
    turn : (x : ℕ) → StartsAt d v x → (t : ℕ) × Turns d x t
    turn x (row, at, e) = ⊎_elim (λ border. absurd (none x border (row, at, e)))
        (λ m. let g = whole.rows.followed m.0 m.1.mate m.1.at_m in (g.0, (m.0, m.1, g.2))) (border_or_mate d whole x row at)
forward d v h whole none start (suc n) =
    let k = forward d v h whole none start n in
    let t = turn k.1 k.4 in
    (k.0 ++ k.1 ∷ [], t.0, trail_more (Turns d) h k.0 k.1 t.0 k.2 t.1, omega (arith, length-append k.0 (k.1 ∷ []), k.3), turn_same d whole v k.1 t.0 t.1 k.4)
  where
    turn : (x : ℕ) → StartsAt d v x → (t : ℕ) × Turns d x t
    turn x (row, at, e) = ⊎_elim (λ border. absurd (none x border (row, at, e)))
        (λ m. let g = whole.rows.followed m.0 m.1.mate m.1.at_m in (g.0, (m.0, m.1, g.2))) (border_or_mate d whole x row at)

pub start_there : (d : ShellRows) (v p : ℕ) (row : Row) → AreOnce d → IsBorder d p → slice_get d.rows p ≡ Some row → row.to.0 ≡ v
    → ((r : ℕ) → IsBorder d r → StartsAt d v r → ⊥) → ⊥
start_there d v p row whole border at ends none =
    let h = behind d whole p row at in
    let start : StartsAt d v h.0 = subst (λ w. StartsAt d w h.0) ends h.2 in
    let head : (t : ℕ) → Turns d t h.0 → ⊥ = λ t turn. no_turn_before d whole p h.0 t border h.1 turn in
    let k = forward d v h.0 whole none start (length (rows_at d v)) in
    let back = trail_back (Turns d) h.0 k.0 k.1 k.2 in
    let without : Has back.0 h.0 → ⊥ = λ m. (let q = prev_on (Turns d) h.0 k.0 k.1 k.2 h.0 (inl (back.3 h.0 m)) in head q.0 q.1) in
    let apart : NoRepeat (k.1 ∷ back.0) = no_repeat (λ a b. Turns d b a) (λ a b c s t. turn_apart d whole b c a s t) k.1 back.0 h.0 back.1 without in
    too_many d v (k.1 ∷ back.0) apart (λ y m. ⊎_elim (λ e. subst (StartsAt d v) e k.4) (λ j. each_on d whole v h.0 k.0 k.1 k.2 start y (inr (back.3 y j))) m)
    (omega (arith, back.2, k.3))

-- An array by vertex, of which one place is written.

abbrev pub IsWritten : Span → ℕ → Option ℕ → List (Option ℕ) → List (Option ℕ) → Type 0
IsWritten span w None old new = new ≡ old
IsWritten span w (Some h) old new = new ≡ slice_set old (w - span.least) (Some h)

abbrev pub StartBefore : ShellRows → ℕ → ℕ → Option ℕ → Type 0
StartBefore d i v None = (r : ℕ) → r < i → IsBorder d r → StartsAt d v r → ⊥
StartBefore d i v (Some r) = IsBorder d r × StartsAt d v r

pub start_none : (d : ShellRows) (v : ℕ) (o : Option ℕ) → o ≡ None → StartBefore d 0 v o
start_none d v None e = λ r lt. absurd (omega (arith, lt))
start_none d v (Some h) e = absurd (let k : Some h ≡ None = e in cc)

start_less : (d : ShellRows) (i v : ℕ) (row : Row) (o : Option ℕ) → slice_get d.rows i ≡ Some row → (IsBorder d i → row.from.0 ≡ v → ⊥) → StartBefore d i v o
    → StartBefore d (i + 1) v o
start_less d i v row None at other before = λ r lt border starts. ⊎_elim (λ low. before r low border starts)
    (λ le. let e : r ≡ i = omega (arith, le, lt) in
    let same : starts.0 ≡ row = same_Some starts.0 row (sym starts.1 ∙ (ap (λ n. slice_get d.rows n) e ∙ at)) in
    other (subst (IsBorder d) e border) (sym (ap (λ (x : Row). x.from.0) same) ∙ starts.2)) (cases_lt r i)
start_less d i v row (Some h) at other before = before

pub starts_step : (d : ShellRows) (i : ℕ) (span : Span) (row : Row) (o : Option ℕ) (old new : List (Option ℕ)) (P : Type 0) → slice_get d.rows i ≡ Some row
    → IsWithin span row.from.0 → length old ≡ span.count → (o ≡ None → IsBorder d i → ⊥) → MatchOption o P (λ b. IsBorder d i × (b ≡ i))
    → IsWritten span row.from.0 o old new
    → ((v : ℕ) → IsWithin span v → StartBefore d i v (get_or old (v - span.least) None)) → (v : ℕ) → IsWithin span v
    → StartBefore d (i + 1) v (get_or new (v - span.least) None)
starts_step d i span row None old new P at within long none some same before v low = subst (λ xs. StartBefore d (i + 1) v (get_or xs (v - span.least) None))
    (sym same) (start_less d i v row (get_or old (v - span.least) None) at (λ border e. none refl border) (before v low))
starts_step d i span row (Some h) old new P at within long none some is_new before v low = by_vertex (eqb_tells row.from.0 v)
  where
    by_vertex : (((row.from.0 == v) ≡ true) × (row.from.0 ≡ v)) ⊎ (((row.from.0 == v) ≡ false) × (row.from.0 ≢ v))
        → StartBefore d (i + 1) v (get_or new (v - span.least) None)
    by_vertex (inl y) =
        let place : v - span.least ≡ row.from.0 - span.least = ap (λ n. n - span.least) (sym y.1) in
        let e : get_or new (v - span.least) None ≡ Some h = ap (λ xs. get_or xs (v - span.least) None) is_new
        ∙ (ap (λ n. get_or (slice_set old (row.from.0 - span.least) (Some h)) n None) place ∙ set_same old (row.from.0 - span.least) (Some h) None
        (omega (arith, within.0, within.1, long))) in
        subst (StartBefore d (i + 1) v) (sym e) (subst (λ r. IsBorder d r × StartsAt d v r) (sym some.1) (some.0, (row, at, y.1)))
    by_vertex (inr n) =
        let other : row.from.0 - span.least ≢ v - span.least = λ e. n.1 (omega (arith, e, within.0, low.0)) in
        let e : get_or new (v - span.least) None ≡ get_or old (v - span.least) None = ap (λ xs. get_or xs (v - span.least) None) is_new
        ∙ set_other old (row.from.0 - span.least) (v - span.least) (Some h) None other in
        subst (StartBefore d (i + 1) v) (sym e) (start_less d i v row (get_or old (v - span.least) None) at (λ border same. n.1 same) (before v low))

pub start_done : (d : ShellRows) (i v : ℕ) (o : Option ℕ) → length d.rows ≤ i → StartBefore d i v o → IsStartOf d v o
start_done d i v None past before = λ r border starts. before r (omega (arith, past, slice_get_within d.rows r starts.0 starts.1)) border starts
start_done d i v (Some r) past before = before

-- the border row that starts where this one ends
pub next_is : (d : ShellRows) (at n : ℕ) (row : Row) (o : Option ℕ) → IsBorder d at → slice_get d.rows at ≡ Some row → IsStartOf d row.to.0 o → o ≡ Some n
    → Next d at n
next_is d at n row None border at_row start e = absurd (let k : None ≡ Some n = e in cc)
next_is d at n row (Some r) border at_row start e =
    let same : r ≡ n = same_Some r n e in
    let s = subst (λ z. IsBorder d z × StartsAt d row.to.0 z) same start in
    (border, s.0, (row, s.1.0, at_row, s.1.1, ap (λ n. record { 0 = n }) (sym s.1.2)))

pub next_some : (d : ShellRows) (at : ℕ) (row : Row) (o : Option ℕ) → AreOnce d → IsBorder d at → slice_get d.rows at ≡ Some row → IsStartOf d row.to.0 o
    → (n : ℕ) × (o ≡ Some n)
next_some d at row None whole border at_row start = absurd (start_there d row.to.0 at row whole border at_row refl start)
next_some d at row (Some r) whole border at_row start = (r, refl)

-- The border rows passed so far, of which none but the first is the first.
abbrev pub Passed : ShellRows → ℕ → List ℕ → ℕ → Type 0
Passed d first [] at = at ≡ first
Passed d first (x ∷ xs) at = (x ≡ first) × Trail (Next d) first xs at × (Has xs first → ⊥)

pub passed_more : (d : ShellRows) (first : ℕ) (rs : List ℕ) (at y : ℕ) → Passed d first rs at → (0 < length rs → at ≡ first → ⊥) → Next d at y
    → Passed d first (rs ++ at ∷ []) y
passed_more d first [] at y w ne t = (w, subst (λ x. Next d x y) w t, (λ h. h))
passed_more d first (x ∷ xs) at y w ne t = (w.0, trail_more (Next d) first xs at y w.1 t, (λ h. ⊎_elim w.2 (ne (omega arith)) (has_last xs at first h)))

pub loop_closed : (d : ShellRows) (first : ℕ) (rs all : List ℕ) (at y : ℕ) → Passed d first rs at → (0 < length rs → at ≡ first → ⊥) → Next d at y → y ≡ first
    → all ≡ rs ++ at ∷ [] → IsLoop d first all
loop_closed d first rs all at y w ne t back is_all =
    subst (IsLoop d first) (sym is_all) (by_list (rs ++ at ∷ []) (passed_more d first rs at y w ne t) (some rs))
  where
    some : (xs : List ℕ) → 0 < length (xs ++ at ∷ [])
    some xs = omega (arith, length-append xs (at ∷ []))

    by_list : (xs : List ℕ) → Passed d first xs y → 0 < length xs → IsLoop d first xs
    by_list [] p lt = absurd (omega (arith, lt))
    by_list (x ∷ xs) p lt = (p.0, subst (Trail (Next d) first xs) back p.1, p.2)

row_below : (d : ShellRows) (r : ℕ) → IsBorder d r → r < length d.rows
row_below d r border = slice_get_within d.rows r border.0 border.1

-- As many border rows as there are rows can't be passed without coming back.
pub never_back : (d : ShellRows) (first : ℕ) (rs : List ℕ) (at : ℕ) → AreOnce d → AllByRecursion (IsFanned d) d.vertices → IsBorder d first → IsBorder d at
    → length d.rows ≤ length rs → (0 < length rs → at ≡ first → ⊥) → Passed d first rs at → ⊥
never_back d first [] at whole fanned border border_at long away w = omega (arith, long, row_below d first border)
never_back d first (x ∷ xs) at whole fanned border border_at long away w =
    let k = trail_back (Next d) first xs at w.1 in
    let none : NoRepeat (at ∷ k.0) = no_repeat (λ a b. Next d b a) (λ a b c p q. next_apart d whole fanned b c a p q) at k.0 first k.1 (λ h. w.2 (k.3 first h))
    in
    let apart : NoRepeat (first ∷ at ∷ k.0) = ((λ h. ⊎_elim (λ e. away (omega arith) e) (λ m. w.2 (k.3 first m)) h), none) in
    let each : (y : ℕ) → Has (first ∷ at ∷ k.0) y → Has (numbers_from 0 (length d.rows)) y =
    λ y m. (let zero_more : 0 + y ≡ y = omega arith in
    subst (Has (numbers_from 0 (length d.rows))) zero_more
    (numbers_have 0 (length d.rows) y
    (⊎_elim (λ e. row_below d y (subst (IsBorder d) e border))
    (λ j. ⊎_elim (λ e. row_below d y (subst (IsBorder d) e border_at)) (λ h. row_below d y (passed_border xs at w.1 y (k.3 y h))) j) m))) in
    omega (arith, long, no_longer (first ∷ at ∷ k.0) (numbers_from 0 (length d.rows)) apart each, length-numbers 0 (length d.rows), k.2)
  where
    passed_border : (ys : List ℕ) (z : ℕ) → Trail (Next d) first ys z → (y : ℕ) → Has ys y → IsBorder d y
    passed_border ys z t y m = trail_keeps (Next d) (IsBorder d) (λ a b n p. n.1) first ys z t border y m
