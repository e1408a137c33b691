-- The walk from the least row of a vertex comes back after as many turns as rows start there, or the vertex is no corner.
use Rattle.std.specs.Prelude.{◌≡◌, ◌≢◌, ◌<◌, ◌≤◌, ◌+◌, ◌==◌, ℕ, Bool, true, false, List, [], ◌∷◌, ◌++◌, length, slice_get, Option, Some, None, count_by, IsTrue}
use Rattle.std.specs.Prelude.{MatchOption}
use Rattle.std.specs.List.{AllZip}
use Rattle.std.proofs.Common.{refl, sym, ◌∙◌, ap, subst, arith, inl, inr, ⊎_elim, append_assoc, drop}
use Rattle.std.proofs.lemmas.List.{append-nil, drop_all}
use Rattle.std.proofs.lemmas.Option.{same_Some}
use Rattle.solid_data.specs.Obligations.{FirstNot}
use Rattle.edge_uses.proofs.FirstOf.{LeftIn}
use Rattle.solid_data.specs.declared.linked.Corner.{Corner}
use Rattle.vertex_link.specs.Corners.{LiesAt, AreLinks, IsCycle, IsCycleOf}
use Rattle.edge_uses.specs.declared.row.Row.{Row}
use Rattle.edge_uses.specs.ShellRows.{ShellRows}
use Rattle.edge_uses.specs.RowRelations.{StartsAt, Turns, point_count}
use Rattle.edge_uses.specs.Around.{IsCorner, IsPoint, IsLinked}
use Rattle.edge_uses.specs.Mates.{ArePaired}
use Rattle.solid_data.proofs.Members.{Has, NoRepeat, covers, no_longer, count_by-total, All-at, All-from, Has-from_Contains, Contains-from_Has, has_last}
use Rattle.solid_data.proofs.Members.{split_at}
use Rattle.solid_data.proofs.Trail.{Trail, trail_from_zip, trail_keeps, no_repeat, leads_to, leads_on, leads_trans}
use Rattle.edge_uses.proofs.Cycle.{AreTurning, on_trail, zip_from_trail}
use Rattle.edge_uses.proofs.CornerCycle.{cycle_of_corner}
use Rattle.edge_uses.proofs.Turn.{turning}
use Rattle.edge_uses.proofs.RowNumbers.{starting, length-starting, starting_has, starting_none, starting_is}
use Rattle.shell_tables.specs.declared.starting.Starts.{Starts}
use Rattle.shell_tables.specs.declared.starting.Points.{Points}
use Rattle.shell_tables.specs.Starting.{AreStarts, ArePoints}

abbrev rows_at : ShellRows → ℕ → List ℕ
rows_at d v = starting v 0 d.rows

at_listed : (d : ShellRows) (v x : ℕ) → StartsAt d v x → Has (rows_at d v) x
at_listed d v x (row, at, e) = let zero_more : 0 + x ≡ x = omega arith in subst (Has (rows_at d v)) zero_more (starting_has v 0 x d.rows row at e)

pub listed_at : (d : ShellRows) (v x : ℕ) → Has (rows_at d v) x → StartsAt d v x
listed_at d v x h =
    let t = starting_is v 0 x d.rows h in
    let e : t.0 ≡ x = omega (arith, t.2) in
    (t.1, ap (λ k. slice_get d.rows k) (sym e) ∙ t.3, t.4)

counted_rows : (d : ShellRows) (v : ℕ) → count_by (λ (r : Row). r.from.0 == v) d.rows ≡ length (rows_at d v)
counted_rows d v = count_by-total (λ (r : Row). r.from.0 == v) d.rows ∙ sym (length-starting v 0 d.rows)

-- the rows passed so far, of which none but the first is the first
abbrev pub Walked : ShellRows → ℕ → List ℕ → ℕ → Type 0
Walked d first [] at = at ≡ first
Walked d first (x ∷ xs) at = (x ≡ first) × Trail (Turns d) first xs at × (Has xs first → ⊥)

trail_more : (R : ℕ → ℕ → Type 0) (x : ℕ) (xs : List ℕ) (y z : ℕ) → Trail R x xs y → R y z → Trail R x (xs ++ y ∷ []) z
trail_more R x [] y z t r = (t, r)
trail_more R x (w ∷ ws) y z t r = (t.0, trail_more R w ws y z t.1 r)

pub walked_more : (d : ShellRows) (first : ℕ) (rs : List ℕ) (at y : ℕ) → Walked d first rs at → (0 < length rs → at ≡ first → ⊥) → Turns d at y
    → Walked d first (rs ++ at ∷ []) y
walked_more d first [] at y w ne t = (w, subst (λ x. Turns d x y) w t, (λ h. h))
walked_more d first (x ∷ xs) at y w ne t = (w.0, trail_more (Turns d) first xs at y w.1 t, (λ h. ⊎_elim w.2 (ne (omega arith)) (has_last xs at first h)))

-- the walk came back too early
pub back_early : (d : ShellRows) (v : ℕ) (m : Starts) (rs : List ℕ) (at : ℕ) → ArePaired d → AreStarts d v m → 0 < length rs → length rs < m.count
    → at ≡ m.first → Walked d m.first rs at → IsCorner d v → ⊥
back_early d v m [] at whole starts some early back w corner = omega (arith, some)
back_early d v m (x ∷ xs) at whole starts some early back w corner =
    let first : StartsAt d v m.first = starts.first (omega (arith, early)) in
    let t : Trail (Turns d) m.first xs m.first = subst (λ y. Trail (Turns d) m.first xs y) back w.1 in
    let into : (y : ℕ) → Has (rows_at d v) y → Has (m.first ∷ xs) y =
    λ y h. let chain = corner.one_cycle m.first y first (listed_at d v y h) in on_trail (Turns d) (turning d whole).one m.first xs t chain.0 m.first y
    (inl refl) chain.1 in
    omega (arith, no_longer (rows_at d v) (m.first ∷ xs) (starting_none v 0 d.rows) into, counted_rows d v, starts.count, early)

-- the walk came back with all rows of the vertex
pub back_in_time : (d : ShellRows) (v : ℕ) (m : Starts) (rs : List ℕ) (at : ℕ) → ArePaired d → AreStarts d v m → 0 < m.count → length rs ≡ m.count
    → at ≡ m.first → Walked d m.first rs at → point_count d v ≡ 0 → IsCycleOf d v rs
back_in_time d v m [] at whole starts some long back w none = absurd (omega (arith, some, long))
back_in_time d v m (x ∷ xs) at whole starts some long back w none = subst (λ y. IsCycle d v y xs) (sym w.0) cycle
  where
    turn : AreTurning d
    turn = turning d whole

    first : StartsAt d v m.first
    first = starts.first some

    t : Trail (Turns d) m.first xs m.first
    t = subst (λ y. Trail (Turns d) m.first xs y) back w.1

    each : (y : ℕ) → Has (m.first ∷ xs) y → StartsAt d v y
    each y (inl e) = subst (StartsAt d v) e first
    each y (inr h) = trail_keeps (Turns d) (StartsAt d v) (λ a b. turn.same v a b) m.first xs m.first t first y h

    apart : NoRepeat (m.first ∷ xs)
    apart = no_repeat (Turns d) turn.one m.first xs m.first t w.2

    cycle : IsCycle d v m.first xs
    cycle = record {
      starts = All-from (StartsAt d v) (m.first ∷ xs) each;
      all = λ y at. Contains-from_Has (m.first ∷ xs) y
          (covers (m.first ∷ xs) (rows_at d v) apart (λ z h. at_listed d v z (each z h)) (omega (arith, long, starts.count, counted_rows d v)) y
          (at_listed d v y at));
      once = omega (arith, long, starts.count);
      turns = zip_from_trail (Turns d) m.first xs m.first t;
      least = All-from (λ y. m.first < y) xs (λ y h.
          let low : m.first ≤ y = (starts.least y (each y (inr h))).1 in
          let other : m.first ≢ y = λ e. w.2 (subst (Has xs) (sym e) h) in
          omega (arith, low, other));
      no_point = none;
    }

-- a walk that has not come back is shorter than one that does
longer : (R : ℕ → ℕ → Type 0) → ((x y z : ℕ) → R x y → R x z → y ≡ z) → (x : ℕ) (xs rs : List ℕ) (y z : ℕ) → Trail R x xs y → Trail R x rs z → (Has xs z → ⊥)
    → (y ≡ z → ⊥) → length xs < length rs
longer R one x [] [] y z t u without ne = absurd (ne (one x y z t u))
longer R one x [] (r ∷ rs) y z t u without ne = omega arith
longer R one x (w ∷ ws) [] y z t u without ne = absurd (without (inl (one x w z t.0 u)))
longer R one x (w ∷ ws) (r ∷ rs) y z t u without ne =
    let same : w ≡ r = one x w r t.0 u.0 in
    omega (arith, longer R one w ws rs y z t.1 (subst (λ q. Trail R q rs z) (sym same) u.1) (λ h. without (inr h)) ne)

-- the walk did not come back
pub not_back : (d : ShellRows) (v : ℕ) (m : Starts) (rs : List ℕ) (at : ℕ) → ArePaired d → AreStarts d v m → 0 < m.count → length rs ≡ m.count
    → (at ≡ m.first → ⊥) → Walked d m.first rs at → IsCorner d v → ⊥
not_back d v m [] at whole starts some long away w corner = omega (arith, some, long)
not_back d v m (x ∷ xs) at whole starts some long away w corner =
    let turn : AreTurning d = turning d whole in
    let c = cycle_of_corner d v turn corner in
    let r : ℕ = c.0 in
    let cs : List ℕ = c.1 in
    let low : m.first ≤ r = (starts.least r c.2.starts).1 in
    let high : r ≤ m.first = ⊎_elim (λ e. omega (arith, e)) (λ h. let l : r < m.first = All-at (λ y. r < y) cs c.2.least m.first h in omega (arith, l))
    (c.2.all m.first (starts.first some)) in
    let same : r ≡ m.first = omega (arith, low, high) in
    let t : Trail (Turns d) m.first cs m.first = subst (λ y. Trail (Turns d) y cs y) same c.2.trail in
    let more : length xs < length cs = longer (Turns d) turn.one m.first xs cs at m.first w.1 t w.2 away in
    omega (arith, more, long, starts.count, counted_rows d v, no_longer (r ∷ cs) (rows_at d v) c.2.none (λ y h. at_listed d v y (c.2.each y h)))

corner_of_cycle : (d : ShellRows) (v r : ℕ) (rs : List ℕ) → IsCycle d v r rs → IsCorner d v
corner_of_cycle d v r rs c = record {
  some = (r, c.starts.0);
  one_cycle = λ a b at_a at_b.
      let t : Trail (Turns d) r rs r = trail_from_zip (Turns d) r rs r c.turns in
      let on = leads_on (Turns d) r rs r t a (Has-from_Contains (r ∷ rs) a (c.all a at_a)) in
      leads_trans (Turns d) a r b on.0 on.1 (leads_to (Turns d) r rs r t b (Has-from_Contains (r ∷ rs) b (c.all b at_b)));
  no_point = c.no_point;
}

pub linked_by : (d : ShellRows) (v : ℕ) (rs : List ℕ) → IsCycleOf d v rs → IsLinked d v
linked_by d v [] c = absurd c
linked_by d v (r ∷ rs) c = inl (corner_of_cycle d v r rs c)

no_row_at : (d : ShellRows) (v : ℕ) (m : Starts) → AreStarts d v m → m.count ≡ 0 → (r : ℕ) → StartsAt d v r → ⊥
no_row_at d v m starts none r at = omega (arith, (starts.least r at).0, none)

pub is_point : (d : ShellRows) (v : ℕ) (m : Starts) (p : Points) → AreStarts d v m → ArePoints d v p → m.count ≡ 0 → p.count ≡ 1 → IsPoint d v
is_point d v m p starts points none one = record { no_row = no_row_at d v m starts none; one_point = sym points.count ∙ one }

pub not_point : (d : ShellRows) (v : ℕ) (m : Starts) (p : Points) → AreStarts d v m → ArePoints d v p → m.count ≡ 0 → (p.count ≡ 1 → ⊥) → IsLinked d v → ⊥
not_point d v m p starts points none one (inl corner) = no_row_at d v m starts none corner.some.0 corner.some.1
not_point d v m p starts points none one (inr point) = one (points.count ∙ point.one_point)

pub both_there : (d : ShellRows) (v : ℕ) (m : Starts) (p : Points) → AreStarts d v m → ArePoints d v p → 0 < m.count → (p.count ≡ 0 → ⊥) → IsLinked d v → ⊥
both_there d v m p starts points some more (inl corner) = more (points.count ∙ corner.no_point)
both_there d v m p starts points some more (inr point) = point.no_row m.first (starts.first some)

pub not_corner : (d : ShellRows) (v : ℕ) (m : Starts) → AreStarts d v m → 0 < m.count → (IsCorner d v → ⊥) → IsLinked d v → ⊥
not_corner d v m starts some no_cycle (inl corner) = no_cycle corner
not_corner d v m starts some no_cycle (inr point) = point.no_row m.first (starts.first some)

pub not_both : (b : Bool) → b ≡ false → IsTrue b → ⊥
not_both true e h = absurd cc
not_both false e h = absurd cc

-- one vertex more
pub one_linked : (d : ShellRows) (i v : ℕ) → slice_get d.vertices i ≡ Some v → LeftIn (IsLinked d) (drop i d.vertices) d.vertices → IsLinked d v
    → LeftIn (IsLinked d) (drop (i + 1) d.vertices) d.vertices
one_linked d i v at l p =
    let k = subst (λ vs. LeftIn (IsLinked d) vs d.vertices) (split_at d.vertices i v at) l in
    record { holds = λ h. k.holds (p, h); fails = λ x h. k.fails x (inr (p, h)) }

pub first_broken : (d : ShellRows) (i v : ℕ) → slice_get d.vertices i ≡ Some v → LeftIn (IsLinked d) (drop i d.vertices) d.vertices → (IsLinked d v → ⊥)
    → FirstNot (IsLinked d) d.vertices v
first_broken d i v at l ne = (subst (λ vs. LeftIn (IsLinked d) vs d.vertices) (split_at d.vertices i v at) l).fails v (inl (ne, refl))

pub one_corner : (d : ShellRows) (i v : ℕ) (corner : Corner) (old new : List Corner) → slice_get d.vertices i ≡ Some v → LiesAt d v corner
    → new ≡ old ++ corner ∷ []
    → ((rest : List Corner) → AllZip (LiesAt d) (drop i d.vertices) rest → AreLinks d (old ++ rest)) → (rest : List Corner)
    → AllZip (LiesAt d) (drop (i + 1) d.vertices) rest → AreLinks d (new ++ rest)
one_corner d i v corner old new at lies e all rest h =
    let there : AreLinks d (old ++ corner ∷ rest) =
    all (corner ∷ rest) (subst (λ vs. AllZip (LiesAt d) vs (corner ∷ rest)) (sym (split_at d.vertices i v at)) (lies, h)) in
    subst (AreLinks d) (sym (ap (λ cs. cs ++ rest) e ∙ append_assoc old (corner ∷ []) rest)) there

pub corners_done : (d : ShellRows) (i : ℕ) (corners : List Corner) → length d.vertices ≤ i
    → ((rest : List Corner) → AllZip (LiesAt d) (drop i d.vertices) rest → AreLinks d (corners ++ rest)) → AreLinks d corners
corners_done d i corners past all =
    subst (AreLinks d) (append-nil corners) (all [] (subst (λ vs. AllZip (LiesAt d) vs []) (sym (drop_all i d.vertices past)) tt))

pub some_of : {A : Type 0} (o : Option A) (x : A) (N : Type 0) (P : A → Type 0) → o ≡ Some x → MatchOption o N P → P x
some_of None x N P e h = absurd cc
some_of (Some y) x N P e h = subst P (same_Some y x e) h
