-- The walk round a vertex, from the row where its path begins or from its least row, passes each row once, or the vertex has no fan.
use Rattle.std.specs.Prelude.{◌≡◌, ◌≢◌, ◌<◌, ◌≤◌, ◌+◌, ◌==◌, ◌⊎◌, ℕ, zero, suc, Bool, true, false, List, [], ◌∷◌, ◌++◌, length, slice_get, Option, Some, None}
use Rattle.std.specs.Prelude.{count_by, IsTrue, MatchOption}
use Rattle.std.proofs.Common.{refl, sym, ◌∙◌, ap, subst, arith, inl, inr, ⊎_elim, length-append}
use Rattle.std.proofs.lemmas.Option.{same_Some}
use Rattle.solid_data.specs.Chain.{Steps, LeadsTo}
use Rattle.edge_uses.specs.declared.row.Row.{Row}
use Rattle.edge_uses.specs.ShellRows.{ShellRows}
use Rattle.edge_uses.specs.RowRelations.{StartsAt, Turns, AreMates, point_count}
use Rattle.edge_uses.specs.Around.{IsPoint}
use Rattle.solid_data.proofs.Members.{Has, NoRepeat, covers, no_longer, count_by-total, All-from, has_last}
use Rattle.solid_data.proofs.Trail.{Trail, trail_keeps, no_repeat, leads_to, leads_on, leads_trans}
use Rattle.solid_data.specs.declared.solid.VertexId.{VertexId}
use Rattle.edge_uses.proofs.Cycle.{on_trail, zip_from_trail}
use Rattle.edge_uses.proofs.Turns.{mates_back, follows_apart}
use Rattle.edge_uses.proofs.RowNumbers.{starting, length-starting, starting_has, starting_none, starting_is}
use Rattle.open_certificate.specs.Sound.{IsBorder, IsFan, IsFanned}
use Rattle.open_certificate.specs.Progress.{IsChain, last_of}
use Rattle.open_shells.specs.Mating.{AreOnce}
use Rattle.open_shells.specs.FanParts.{IsCycle, IsPath, IsCycleOf, IsPathOf, IsHeadOf}
use Rattle.shell_tables.specs.Starting.{AreStarts, ArePoints}
use Rattle.shell_tables.specs.declared.starting.Starts.{Starts}
use Rattle.shell_tables.specs.declared.starting.Points.{Points}
use Rattle.open_shells.proofs.OnceMates.{row_once}
use Rattle.open_certificate.proofs.Fans.{one_mate_of, lone_no_mate, chain_no_repeat, chain_leads}

-- Turning leads from a row to one row, and to a row from one row, at one vertex.

pub turn_one : (d : ShellRows) → AreOnce d → (x y z : ℕ) → Turns d x y → Turns d x z → y ≡ z
turn_one d whole x y z (m, a, f) (k, b, g) =
    let same : m ≡ k = one_mate_of d (row_once d whole) x m k a b in
    same_Some y z (sym f ∙ (ap (λ n. slice_get d.follows n) same ∙ g))

pub turn_apart : (d : ShellRows) → AreOnce d → (x y z : ℕ) → Turns d x z → Turns d y z → x ≡ y
turn_apart d whole x y z (m, a, f) (k, b, g) =
    let same : m ≡ k = follows_apart d whole.rows m k z f g in
    one_mate_of d (row_once d whole) k x y (subst (λ n. AreMates d n x) same (mates_back d x m a)) (mates_back d y k b)

pub turn_same : (d : ShellRows) → AreOnce d → (v x y : ℕ) → Turns d x y → StartsAt d v x → StartsAt d v y
turn_same d whole v x y (m, a, f) (row, at, e) =
    let g = whole.rows.followed m a.mate a.at_m in
    let there : y ≡ g.0 = same_Some y g.0 (sym f ∙ g.2) in
    let at_y : slice_get d.rows y ≡ Some g.1 = ap (λ n. slice_get d.rows n) there ∙ g.3 in
    let met : a.mate.to.0 ≡ g.1.from.0 = ap (λ (w : VertexId). w.0) (whole.meet m y a.mate g.1 f a.at_m at_y) in
    let swapped : a.row.from.0 ≡ a.mate.to.0 = ap (λ (w : VertexId). w.0) (whole.rows.exchanged_ends x m a.row a.mate a.at_r a.at_m a.one_edge a.opposite).0 in
    let starts : a.row.from.0 ≡ v = ap (λ (r : Row). r.from.0) (same_Some a.row row (sym a.at_r ∙ at)) ∙ e in
    (g.1, at_y, sym met ∙ (sym swapped ∙ starts))

pub turn_before : (d : ShellRows) → AreOnce d → (v x y : ℕ) → Turns d x y → StartsAt d v y → StartsAt d v x
turn_before d whole v x y t (row, at, e) =
    let a = t.1 in
    let g = turn_same d whole a.row.from.0 x y t (a.row, a.at_r, refl) in
    let same : g.0.from.0 ≡ row.from.0 = ap (λ (r : Row). r.from.0) (same_Some g.0 row (sym g.1 ∙ at)) in
    (a.row, a.at_r, sym g.2 ∙ (same ∙ e))

pub border_stuck : (d : ShellRows) (b t : ℕ) → IsBorder d b → Turns d b t → ⊥
border_stuck d b t border turn = lone_no_mate d b turn.0 border.0 border.1 border.2 turn.1

-- The rows of a vertex.

abbrev pub rows_at : ShellRows → ℕ → List ℕ
rows_at d v = starting v 0 d.rows

pub at_listed : (d : ShellRows) (v x : ℕ) → StartsAt d v x → Has (rows_at d v) x
at_listed d v x (row, at, e) = let zero_more : 0 + x ≡ x = omega arith in subst (Has (rows_at d v)) zero_more (starting_has v 0 x d.rows row at e)

pub listed_at : (d : ShellRows) (v x : ℕ) → Has (rows_at d v) x → StartsAt d v x
listed_at d v x h =
    let t = starting_is v 0 x d.rows h in
    let e : t.0 ≡ x = omega (arith, t.2) in
    (t.1, ap (λ k. slice_get d.rows k) (sym e) ∙ t.3, t.4)

pub counted_rows : (d : ShellRows) (v : ℕ) → count_by (λ (r : Row). r.from.0 == v) d.rows ≡ length (rows_at d v)
counted_rows d v = count_by-total (λ (r : Row). r.from.0 == v) d.rows ∙ sym (length-starting v 0 d.rows)

-- as many different rows of the vertex as there are, and one more, can't be
pub too_many : (d : ShellRows) (v : ℕ) (xs : List ℕ) → NoRepeat xs → ((x : ℕ) → Has xs x → StartsAt d v x) → length (rows_at d v) < length xs → ⊥
too_many d v xs none each more = omega (arith, more, no_longer xs (rows_at d v) none (λ x m. at_listed d v x (each x m)))

-- fewer rows than there are don't hold all
too_few : (d : ShellRows) (v : ℕ) (xs : List ℕ) → ((x : ℕ) → StartsAt d v x → Has xs x) → length xs < length (rows_at d v) → ⊥
too_few d v xs all less = omega (arith, less, no_longer (rows_at d v) xs (starting_none v 0 d.rows) (λ x m. all x (listed_at d v x m)))

-- The rows passed so far, of which none but the first is the first.
abbrev pub Walked : ShellRows → ℕ → List ℕ → ℕ → Type 0
Walked d first [] at = at ≡ first
Walked d first (x ∷ xs) at = (x ≡ first) × Trail (Turns d) first xs at × (Has xs first → ⊥)

pub trail_more : (R : ℕ → ℕ → Type 0) (x : ℕ) (xs : List ℕ) (y z : ℕ) → Trail R x xs y → R y z → Trail R x (xs ++ y ∷ []) z
trail_more R x [] y z t r = (t, r)
trail_more R x (w ∷ ws) y z t r = (t.0, trail_more R w ws y z t.1 r)

pub walked_more : (d : ShellRows) (first : ℕ) (rs : List ℕ) (at y : ℕ) → Walked d first rs at → (0 < length rs → at ≡ first → ⊥) → Turns d at y
    → Walked d first (rs ++ at ∷ []) y
walked_more d first [] at y w ne t = (w, subst (λ x. Turns d x y) w t, (λ h. h))
walked_more d first (x ∷ xs) at y w ne t = (w.0, trail_more (Turns d) first xs at y w.1 t, (λ h. ⊎_elim w.2 (ne (omega arith)) (has_last xs at first h)))

-- what comes before an element of a trail but the first
pub prev_on : (R : ℕ → ℕ → Type 0) (x : ℕ) (xs : List ℕ) (z : ℕ) → Trail R x xs z → (y : ℕ) → Has xs y ⊎ (y ≡ z) → (w : ℕ) × R w y × Has (x ∷ xs) w
prev_on R x [] z t y (inl m) = absurd m
prev_on R x [] z t y (inr e) = (x, subst (R x) (sym e) t, inl refl)
prev_on R x (v ∷ vs) z t y (inl (inl e)) = (x, subst (R x) e t.0, inl refl)
prev_on R x (v ∷ vs) z t y (inl (inr m)) = let k = prev_on R v vs z t.1 y (inl m) in (k.0, k.1, inr k.2)
prev_on R x (v ∷ vs) z t y (inr e) = let k = prev_on R v vs z t.1 y (inr e) in (k.0, k.1, inr k.2)

-- what leads to an element of a trail that comes back is on the trail
back_on_trail : (R : ℕ → ℕ → Type 0) → ((x y z : ℕ) → R x z → R y z → x ≡ y) → (r : ℕ) (rs : List ℕ) → Trail R r rs r → (n a x : ℕ) → Has (r ∷ rs) x
    → Steps R n a x → Has (r ∷ rs) a
back_on_trail R apart r rs t zero a x m e = subst (Has (r ∷ rs)) (sym e) m
back_on_trail R apart r rs t (suc n) a x m (c, s, rest) =
    let there : Has (r ∷ rs) c = back_on_trail R apart r rs t n c x m rest in
    let k = prev_on R r rs r t c (⊎_elim (λ e. inr (sym e)) (λ h. inl h) there) in
    subst (Has (r ∷ rs)) (apart k.0 a c k.1 s) k.2

-- what leads to an element of a chain is on the chain, where nothing leads to the first
back_on_chain : (R : ℕ → ℕ → Type 0) → ((x y z : ℕ) → R x z → R y z → x ≡ y) → (r : ℕ) (rs : List ℕ) → IsChain R r rs → ((t : ℕ) → R t r → ⊥) → (n a x : ℕ)
    → Has (r ∷ rs) x → Steps R n a x → Has (r ∷ rs) a
back_on_chain R apart r rs c head zero a x m e = subst (Has (r ∷ rs)) (sym e) m
back_on_chain R apart r rs c head (suc n) a x m (y, s, rest) = by_place (back_on_chain R apart r rs c head n y x m rest)
  where
    prev : (q : ℕ) (qs : List ℕ) → IsChain R q qs → Has qs y → (w : ℕ) × R w y × Has (q ∷ qs) w
    prev q [] k m = absurd m
    prev q (w ∷ ws) k (inl e) = (q, subst (R q) e k.0, inl refl)
    prev q (w ∷ ws) k (inr m) = let p = prev w ws k.1 m in (p.0, p.1, inr p.2)

    by_place : Has (r ∷ rs) y → Has (r ∷ rs) a
    by_place (inl e) = absurd (head a (subst (R a) (sym e) s))
    by_place (inr m) = let p = prev r rs c m in subst (Has (r ∷ rs)) (apart p.0 a y p.1 s) p.2

pub each_on : (d : ShellRows) → AreOnce d → (v first : ℕ) (xs : List ℕ) (z : ℕ) → Trail (Turns d) first xs z → StartsAt d v first → (y : ℕ)
    → Has (first ∷ xs) y → StartsAt d v y
each_on d whole v first xs z t start y (inl e) = subst (StartsAt d v) e start
each_on d whole v first xs z t start y (inr h) = trail_keeps (Turns d) (StartsAt d v) (λ a b. turn_same d whole v a b) first xs z t start y h

-- The walk came back too early.
pub back_early : (d : ShellRows) (v first count : ℕ) (rs : List ℕ) (at : ℕ) → AreOnce d → StartsAt d v first
    → count ≡ count_by (λ (r : Row). r.from.0 == v) d.rows → 0 < length rs → length rs < count → at ≡ first → Walked d first rs at → IsFan d v → ⊥
back_early d v first count [] at whole start counted some early back w fan = omega (arith, some)
back_early d v first count (x ∷ xs) at whole start counted some early back w fan =
    let t : Trail (Turns d) first xs first = subst (λ y. Trail (Turns d) first xs y) back w.1 in
    let into : (y : ℕ) → StartsAt d v y → Has (first ∷ xs) y =
    λ y at_y. ⊎_elim (λ c. on_trail (Turns d) (turn_one d whole) first xs t c.0 first y (inl refl) c.1)
    (λ c. back_on_trail (Turns d) (turn_apart d whole) first xs t c.0 y first (inl refl) c.1) (fan.one_fan first y start at_y) in
    too_few d v (first ∷ xs) into (omega (arith, early, counted, counted_rows d v))

-- A trail read from its end.
pub trail_back : (R : ℕ → ℕ → Type 0) (x : ℕ) (xs : List ℕ) (z : ℕ) → Trail R x xs z → (ys : List ℕ) × Trail (λ a b. R b a) z ys x × (length ys ≡ length xs)
    × ((y : ℕ) → Has ys y → Has xs y)
trail_back R x [] z t = ([], t, refl, (λ y m. m))
trail_back R x (w ∷ ws) z t =
    let k = trail_back R w ws z t.1 in (
      k.0 ++ w ∷ [],
      trail_more (λ a b. R b a) z k.0 w x k.1 t.0,
      omega (arith, length-append k.0 (w ∷ []), k.2),
      λ y m. ⊎_elim (λ h. inr (k.3 y h)) (λ e. inl e) (has_last k.0 w y m),
    )

-- The walk did not come back after as many turns as there are rows: that can't be.
pub not_back : (d : ShellRows) (v first count : ℕ) (rs : List ℕ) (at : ℕ) → AreOnce d → StartsAt d v first
    → count ≡ count_by (λ (r : Row). r.from.0 == v) d.rows → 0 < count → length rs ≡ count → (at ≡ first → ⊥) → StartsAt d v at → Walked d first rs at → ⊥
not_back d v first count [] at whole start counted some long away at_v w = omega (arith, some, long)
not_back d v first count (x ∷ xs) at whole start counted some long away at_v w =
    let k = trail_back (Turns d) first xs at w.1 in
    let none : NoRepeat (at ∷ k.0) = no_repeat (λ a b. Turns d b a) (λ a b c p q. turn_apart d whole b c a p q) at k.0 first k.1 (λ h. w.2 (k.3 first h)) in
    let apart : NoRepeat (first ∷ at ∷ k.0) = ((λ h. ⊎_elim away (λ m. w.2 (k.3 first m)) h), none) in
    too_many d v (first ∷ at ∷ k.0) apart
    (λ y m. ⊎_elim (λ e. subst (StartsAt d v) e start)
    (λ j. ⊎_elim (λ e. subst (StartsAt d v) e at_v) (λ h. each_on d whole v first xs at w.1 start y (inr (k.3 y h))) j) m)
    (omega (arith, long, counted, counted_rows d v, k.2))

-- The walk came back with all rows of the vertex.
pub back_in_time : (d : ShellRows) (v first count : ℕ) (rs : List ℕ) (at : ℕ) → AreOnce d → StartsAt d v first → ((x : ℕ) → StartsAt d v x → first ≤ x)
    → count ≡ count_by (λ (r : Row). r.from.0 == v) d.rows → 0 < count → length rs ≡ count → at ≡ first → Walked d first rs at → point_count d v ≡ 0
    → IsCycleOf d v rs × IsFan d v
back_in_time d v first count [] at whole start least counted some long back w none = absurd (omega (arith, some, long))
back_in_time d v first count (x ∷ xs) at whole start least counted some long back w none = (subst (λ y. IsCycle d v y xs) (sym w.0) cycle, fan)
  where
    t : Trail (Turns d) first xs first
    t = subst (λ y. Trail (Turns d) first xs y) back w.1

    each : (y : ℕ) → Has (first ∷ xs) y → StartsAt d v y
    each = each_on d whole v first xs first t start

    apart : NoRepeat (first ∷ xs)
    apart = no_repeat (Turns d) (turn_one d whole) first xs first t w.2

    all : (y : ℕ) → StartsAt d v y → Has (first ∷ xs) y
    all y at_y = covers (first ∷ xs) (rows_at d v) apart (λ z h. at_listed d v z (each z h)) (omega (arith, long, counted, counted_rows d v)) y
        (at_listed d v y at_y)

    cycle : IsCycle d v first xs
    cycle = record {
      starts = All-from (StartsAt d v) (first ∷ xs) each;
      once = omega (arith, long, counted);
      turns = zip_from_trail (Turns d) first xs first t;
      least = All-from (λ y. first < y) xs (λ y h.
          let low : first ≤ y = least y (each y (inr h)) in
          let other : first ≢ y = λ e. w.2 (subst (Has xs) (sym e) h) in
          omega (arith, low, other));
      no_point = none;
    }

    fan : IsFan d v
    fan = record {
      some = (first, start);
      one_fan = λ a b at_a at_b.
          let on = leads_on (Turns d) first xs first t a (all a at_a) in
          inl (leads_trans (Turns d) a first b on.0 on.1 (leads_to (Turns d) first xs first t b (all b at_b)));
      no_point = none;
    }

-- A chain to a row, of any length, where a row turns to each.
chain_before : (d : ShellRows) (v b : ℕ) → AreOnce d → ((x : ℕ) → StartsAt d v x → (t : ℕ) × Turns d t x) → StartsAt d v b → (n : ℕ)
    → (x : ℕ) × (xs : List ℕ) × IsChain (Turns d) x xs × (last_of x xs ≡ b) × (length xs ≡ n) × ((y : ℕ) → Has (x ∷ xs) y → StartsAt d v y)
chain_before d v b whole each start zero = (b, [], tt, refl, refl, (λ y m. ⊎_elim (λ e. subst (StartsAt d v) e start) (λ h. absurd h) m))
chain_before d v b whole each start (suc n) =
    let k = chain_before d v b whole each start n in
    let at_x : StartsAt d v k.0 = k.5 k.0 (inl refl) in
    let p = each k.0 at_x in (
      p.0,
      k.0 ∷ k.1,
      (p.1, k.2),
      k.3,
      ap suc k.4,
      (λ y m. ⊎_elim (λ e. subst (StartsAt d v) e (turn_before d whole v p.0 k.0 p.1 at_x)) (λ h. k.5 y h) m),
    )

-- Where a row turns to each row of a vertex, no border row starts there.
no_border : (d : ShellRows) (v b : ℕ) → AreOnce d → ((x : ℕ) → StartsAt d v x → (t : ℕ) × Turns d t x) → StartsAt d v b → IsBorder d b → ⊥
no_border d v b whole each start border =
    let k = chain_before d v b whole each start (length (rows_at d v)) in
    let none : NoRepeat (k.0 ∷ k.1) =
    chain_no_repeat (Turns d) (turn_one d whole) k.0 k.1 k.2 (λ w t. border_stuck d b w border (subst (λ y. Turns d y w) k.3 t)) in
    too_many d v (k.0 ∷ k.1) none k.5 (omega (arith, k.4))

-- the chain of the rows passed so far, and of the row at hand
chain_of_walk : (R : ℕ → ℕ → Type 0) (x : ℕ) (xs : List ℕ) (z : ℕ) → Trail R x xs z → IsChain R x (xs ++ z ∷ []) × (last_of x (xs ++ z ∷ []) ≡ z)
chain_of_walk R x [] z t = ((t, tt), refl)
chain_of_walk R x (w ∷ ws) z t = let k = chain_of_walk R w ws z t.1 in ((t.0, k.0), k.1)

walked_chain : (d : ShellRows) (first : ℕ) (rs : List ℕ) (at : ℕ) → Walked d first rs at → (xs : List ℕ) × (rs ++ at ∷ [] ≡ first ∷ xs)
    × IsChain (Turns d) first xs × (last_of first xs ≡ at)
walked_chain d first [] at w = ([], ap (λ y. y ∷ []) w, tt, sym w)
walked_chain d first (x ∷ xs) at w = let k = chain_of_walk (Turns d) first xs at w.1 in (xs ++ at ∷ [], ap (λ y. y ∷ (xs ++ at ∷ [])) w.0, k.0, k.1)

chain_keeps : (d : ShellRows) → AreOnce d → (v x : ℕ) (xs : List ℕ) → IsChain (Turns d) x xs → StartsAt d v x → (y : ℕ) → Has (x ∷ xs) y → StartsAt d v y
chain_keeps d whole v x xs c start y (inl e) = subst (StartsAt d v) e start
chain_keeps d whole v x [] c start y (inr m) = absurd m
chain_keeps d whole v x (w ∷ ws) c start y (inr m) = chain_keeps d whole v w ws c.1 (turn_same d whole v x w c.0 start) y m

-- The walk came to a border row, with all rows of the vertex.
pub path_whole : (d : ShellRows) (v first count : ℕ) (rs all : List ℕ) (at : ℕ) → AreOnce d → StartsAt d v first
    → count ≡ count_by (λ (r : Row). r.from.0 == v) d.rows → length rs + 1 ≡ count → IsBorder d at → Walked d first rs at → all ≡ rs ++ at ∷ []
    → point_count d v ≡ 0 → IsPathOf d v all × IsFan d v
path_whole d v first count rs all at whole start counted long border w is_all none = (subst (IsPathOf d v) (sym (is_all ∙ k.1)) path, fan)
  where
    k : (xs : List ℕ) × (rs ++ at ∷ [] ≡ first ∷ xs) × IsChain (Turns d) first xs × (last_of first xs ≡ at)
    k = walked_chain d first rs at w

    each : (y : ℕ) → Has (first ∷ k.0) y → StartsAt d v y
    each = chain_keeps d whole v first k.0 k.2 start

    many : length (first ∷ k.0) ≡ count
    many = sym (ap (λ xs. length xs) k.1) ∙ (length-append rs (at ∷ []) ∙ long)

    apart : NoRepeat (first ∷ k.0)
    apart = chain_no_repeat (Turns d) (turn_one d whole) first k.0 k.2 (λ y t. border_stuck d at y border (subst (λ z. Turns d z y) k.3 t))

    all_in : (y : ℕ) → StartsAt d v y → Has (first ∷ k.0) y
    all_in y at_y = covers (first ∷ k.0) (rows_at d v) apart (λ z h. at_listed d v z (each z h)) (omega (arith, many, counted, counted_rows d v)) y
        (at_listed d v y at_y)

    path : IsPath d v first k.0
    path = record {
      starts = All-from (StartsAt d v) (first ∷ k.0) each;
      once = omega (arith, many, counted);
      turns = k.2;
      ends =
          subst (IsBorder d) (sym k.3) border;
      no_point = none;
    }

    fan : IsFan d v
    fan = record { some = (first, start); one_fan = λ a b at_a at_b. chain_leads (Turns d) first k.0 k.2 a b (all_in a at_a) (all_in b at_b); no_point = none }

-- a chain of turns from a border row has no step
pub stays : (d : ShellRows) (b x : ℕ) → IsBorder d b → LeadsTo (Turns d) b x → b ≡ x
stays d b x border (zero, e) = e
stays d b x border (suc n, (c, t, rest)) = absurd (border_stuck d b c border t)

-- where the walk may begin
abbrev pub Begins : ShellRows → ℕ → Option ℕ → ℕ → Type 0
Begins d v None first = (x : ℕ) → StartsAt d v x → first ≤ x
Begins d v (Some h) first = h ≡ first

-- The walk came to a border row too early.
pub path_short : (d : ShellRows) (v first count : ℕ) (head : Option ℕ) (rs : List ℕ) (at : ℕ) → AreOnce d → StartsAt d v first → IsHeadOf d v head
    → Begins d v head first → count ≡ count_by (λ (r : Row). r.from.0 == v) d.rows → length rs + 1 < count → IsBorder d at → StartsAt d v at
    → Walked d first rs at → IsFan d v → ⊥
path_short d v first count None rs at whole start head begins counted short border at_v w fan = no_border d v at whole head at_v border
path_short d v first count (Some h) rs at whole start head begins counted short border at_v w fan =
    let k = walked_chain d first rs at w in
    let many : length (first ∷ k.0) ≡ length rs + 1 = sym (ap (λ xs. length xs) k.1) ∙ length-append rs (at ∷ []) in
    let last_in : Has (first ∷ k.0) at = subst (Has (first ∷ k.0)) k.3 (has_end first k.0) in
    let into : (y : ℕ) → StartsAt d v y → Has (first ∷ k.0) y =
    λ y at_y. ⊎_elim (λ c. subst (Has (first ∷ k.0)) (stays d at y border c) last_in)
    (λ c. back_on_chain (Turns d) (turn_apart d whole) first k.0 k.2 (λ t r. head.1 t (subst (Turns d t) (sym begins) r)) c.0 y at last_in c.1)
    (fan.one_fan at y at_v at_y) in
    too_few d v (first ∷ k.0) into (omega (arith, many, short, counted, counted_rows d v))
  where
    has_end : (x : ℕ) (xs : List ℕ) → Has (x ∷ xs) (last_of x xs)
    has_end x [] = inl refl
    has_end x (y ∷ ys) = inr (has_end y ys)

-- A walk that came back has begun at the least row.
pub back_least : (d : ShellRows) (v first : ℕ) (head : Option ℕ) (rs : List ℕ) (at : ℕ) → IsHeadOf d v head → Begins d v head first → 0 < length rs
    → at ≡ first → Walked d first rs at → (x : ℕ) → StartsAt d v x → first ≤ x
back_least d v first None rs at head begins some back w = begins
back_least d v first (Some h) [] at head begins some back w = absurd (omega (arith, some))
back_least d v first (Some h) (x ∷ xs) at head begins some back w =
    let k = prev_on (Turns d) first xs at w.1 at (inr refl) in
    absurd (head.1 k.0 (subst (Turns d k.0) (back ∙ sym begins) k.1))

pub begin_starts : (d : ShellRows) (v : ℕ) (m : Starts) (head : Option ℕ) (first : ℕ) → AreStarts d v m → 0 < m.count → IsHeadOf d v head
    → (head ≡ None → first ≡ m.first) → ((h : ℕ) → head ≡ Some h → first ≡ h) → StartsAt d v first × Begins d v head first
begin_starts d v m None first starts some head at_none at_some =
    let e = at_none refl in
    (subst (StartsAt d v) (sym e) (starts.first some), λ x at. (let low = (starts.least x at).1 in omega (arith, low, e)))
begin_starts d v m (Some h) first starts some head at_none at_some = let e = at_some h refl in (subst (StartsAt d v) (sym e) head.0, sym e)

-- Vertices where no row starts.

no_row_at : (d : ShellRows) (v : ℕ) (m : Starts) → AreStarts d v m → m.count ≡ 0 → (r : ℕ) → StartsAt d v r → ⊥
no_row_at d v m starts none r at = omega (arith, (starts.least r at).0, none)

pub is_point : (d : ShellRows) (v : ℕ) (m : Starts) (p : Points) → AreStarts d v m → ArePoints d v p → m.count ≡ 0 → p.count ≡ 1 → IsPoint d v
is_point d v m p starts points none one = record { no_row = no_row_at d v m starts none; one_point = sym points.count ∙ one }

pub not_point : (d : ShellRows) (v : ℕ) (m : Starts) (p : Points) → AreStarts d v m → ArePoints d v p → m.count ≡ 0 → (p.count ≡ 1 → ⊥) → IsFanned d v → ⊥
not_point d v m p starts points none one (inl fan) = no_row_at d v m starts none fan.some.0 fan.some.1
not_point d v m p starts points none one (inr spot) = one (points.count ∙ spot.one_point)

pub both_there : (d : ShellRows) (v : ℕ) (m : Starts) (p : Points) → AreStarts d v m → ArePoints d v p → 0 < m.count → (p.count ≡ 0 → ⊥) → IsFanned d v → ⊥
both_there d v m p starts points some more (inl fan) = more (points.count ∙ fan.no_point)
both_there d v m p starts points some more (inr spot) = spot.no_row m.first (starts.first some)

pub not_fan : (d : ShellRows) (v : ℕ) (m : Starts) → AreStarts d v m → 0 < m.count → (IsFan d v → ⊥) → IsFanned d v → ⊥
not_fan d v m starts some never (inl fan) = never fan
not_fan d v m starts some never (inr spot) = spot.no_row m.first (starts.first some)

pub not_both : (b : Bool) → b ≡ false → IsTrue b → ⊥
not_both true e h = absurd cc
not_both false e h = absurd cc

pub some_of : {A : Type 0} (o : Option A) (x : A) (N : Type 0) (P : A → Type 0) → o ≡ Some x → MatchOption o N P → P x
some_of None x N P e h = absurd cc
some_of (Some y) x N P e h = subst P (same_Some y x e) h
