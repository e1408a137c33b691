-- A fitting corner line lists the rows of one cycle of turns, and these are all rows that start at its vertex.
use Rattle.std.specs.Prelude.{◌≡◌, ℕ, zero, suc, ◌+◌, ◌<◌, ◌≤◌, ◌==◌, not, List, [], ◌∷◌, length, Contains, Option, Some, None, slice_get}
use Rattle.std.specs.List.{AllByRecursion}
use Rattle.std.proofs.Common.{refl, sym, ◌∙◌, ap, subst, arith, inl, inr, ⊎_elim}
use Rattle.std.proofs.lemmas.Option.{same_Some, none-some}
use Rattle.solid_data.specs.Chain.{Steps}
use Rattle.solid_data.specs.declared.solid.EdgeId.{EdgeId}
use Rattle.solid_data.specs.declared.solid.VertexId.{VertexId}
use Rattle.edge_uses.specs.declared.row.Row.{Row}
use Rattle.edge_uses.specs.ShellRows.{ShellRows, EndsMeet}
use Rattle.edge_uses.specs.RowRelations.{AreMates, Turns, StartsAt, IsPaired}
use Rattle.edge_uses.specs.Around.{IsCorner}
use Rattle.solid_data.proofs.Members.{Has, NoRepeat, covers, count_by-total}
use Rattle.cert_state.specs.Progress.{Progress, row_named, row_start, FollowsAsNamed, IsMate, TurnsTo, FitsCorner}
use Rattle.solid_data.proofs.Trail.{Trail, trail_from_zip, leads_trans, leads_to, leads_on, no_repeat}
use Rattle.edge_uses.proofs.RowShape.{EndsExchanged}
use Rattle.edge_uses.proofs.Turn.{not-not, PairedRows, pair_counts, one_of_edge}
use Rattle.edge_uses.proofs.RowNumbers.{starting, length-starting, starting_has}

-- mates by their numbers in a line
pub record AreNamedMates (d : ShellRows) (r m : ℕ) : Type 0 where
  pub row : Row
  pub mate : Row
  pub at_r : row_named d r ≡ Some row
  pub at_m : row_named d m ≡ Some mate
  pub one_edge : row.edge ≡ mate.edge
  pub opposite : row.along ≡ not mate.along

pub mates_back : (d : ShellRows) (r m : ℕ) → AreNamedMates d r m → AreNamedMates d m r
mates_back d r m h = record {
  row = h.mate;
  mate = h.row;
  at_r = h.at_m;
  at_m = h.at_r;
  one_edge = sym h.one_edge;
  opposite =
      not-not h.row.along h.mate.along h.opposite;
}

-- the listed pairs are mates
abbrev pub MatesHold : ShellRows → List (ℕ × ℕ) → Type 0
MatesHold d mates = (r m : ℕ) → Contains mates (r, m) → AreNamedMates d r m

pub mates_named : (d : ShellRows) (mates : List (ℕ × ℕ)) (r m : ℕ) → MatesHold d mates → IsMate mates r m → AreNamedMates d r m
mates_named d mates r m hold h = ⊎_elim (λ c. hold r m c) (λ c. mates_back d m r (hold m r c)) h

-- by their numbers as rows
pub mates_unnamed : (d : ShellRows) (r m : ℕ) → AreNamedMates d (suc r) (suc m) → AreMates d r m
mates_unnamed d r m h = record { row = h.row; mate = h.mate; at_r = h.at_r; at_m = h.at_m; one_edge = h.one_edge; opposite = h.opposite }

pub turn_unnamed : (d : ShellRows) (mates : List (ℕ × ℕ)) (r c : ℕ) → MatesHold d mates → TurnsTo d mates (suc r) c → (s : ℕ) × (c ≡ suc s) × Turns d r s
turn_unnamed d mates r zero hold (zero, m, f) = absurd f
turn_unnamed d mates r zero hold (suc k, m, f) = absurd f
turn_unnamed d mates r (suc s) hold (zero, m, f) = absurd f
turn_unnamed d mates r (suc s) hold (suc k, m, f) = (s, refl, (k, mates_unnamed d r k (mates_named d mates (suc r) (suc k) hold m), f))

abbrev before : ℕ → ℕ
before zero = 0
before (suc n) = n

pub chain_unnamed : (d : ShellRows) (mates : List (ℕ × ℕ)) → MatesHold d mates → (n r s : ℕ) → Steps (TurnsTo d mates) n (suc r) (suc s) → Steps (Turns d) n r s
chain_unnamed d mates hold zero r s e = ap before e
chain_unnamed d mates hold (suc n) r s (c, t, rest) =
    let u = turn_unnamed d mates r c hold t in
    (u.0, u.2, chain_unnamed d mates hold n u.0 s (subst (λ x. Steps (TurnsTo d mates) n x (suc s)) u.1 rest))

-- a row that turns is there, and the row that it turns to starts where it does
abbrev pub StartsNamed : ShellRows → ℕ → ℕ → Type 0
StartsNamed d v r = row_start (row_named d r) ≡ Some v

pub start_of_row : (d : ShellRows) (r : ℕ) (row : Row) → row_named d r ≡ Some row → row_start (row_named d r) ≡ Some row.from.0
start_of_row d r row h = ap row_start h

pub turn_start_by : (d : ShellRows) → EndsMeet d → EndsExchanged d → (v r k t : ℕ) → AreNamedMates d r k → FollowsAsNamed d k t → (b : Row)
    → row_named d t ≡ Some b → StartsNamed d v r → StartsNamed d v t
turn_start_by d meet exchanged v zero k t a f b at_t start = absurd (none-some a.row a.at_r)
turn_start_by d meet exchanged v (suc n) zero t a f b at_t start = absurd f
turn_start_by d meet exchanged v (suc n) (suc k) zero a f b at_t start = absurd f
turn_start_by d meet exchanged v (suc n) (suc k) (suc t) a f b at_t start =
    let starts : a.row.from.0 ≡ v = same_Some a.row.from.0 v (sym (start_of_row d (suc n) a.row a.at_r) ∙ start) in
    let swapped : a.row.from.0 ≡ a.mate.to.0 = exchanged n k a.row a.mate a.at_r a.at_m a.one_edge a.opposite in
    let met : a.mate.to.0 ≡ b.from.0 = ap (λ (x : VertexId). x.0) (meet k t a.mate b f a.at_m at_t) in
    start_of_row d (suc t) b at_t ∙ ap Some (sym met ∙ (sym swapped ∙ starts))

-- what turns is a row
pub turns_row : (d : ShellRows) (mates : List (ℕ × ℕ)) (r s : ℕ) → MatesHold d mates → TurnsTo d mates r s → (row : Row) × (row_named d r ≡ Some row)
turns_row d mates r s hold t = let a = mates_named d mates r t.0 hold t.1 in (a.row, a.at_r)

-- the rows of a corner line start at its vertex
pub corner_starts : (d : ShellRows) (mates : List (ℕ × ℕ)) → EndsMeet d → EndsExchanged d → MatesHold d mates → (v r : ℕ) (rs : List ℕ) (z : ℕ)
    → Trail (TurnsTo d mates) r rs z → StartsNamed d v r → (x : ℕ) → Has (r ∷ rs) x → StartsNamed d v x
corner_starts d mates meet exchanged hold v r rs z t start x (inl e) = subst (StartsNamed d v) e start
corner_starts d mates meet exchanged hold v r [] z t start x (inr h) = absurd h
corner_starts d mates meet exchanged hold v r (w ∷ ws) z t start x (inr h) =
    let row = turns_row d mates w (next_in w ws z) hold (first_turn w ws z t.1) in
    let a = mates_named d mates r t.0.0 hold t.0.1 in
    corner_starts d mates meet exchanged hold v w ws z t.1 (turn_start_by d meet exchanged v r t.0.0 w a t.0.2 row.0 row.1 start) x h
  where
    next_in : ℕ → List ℕ → ℕ → ℕ
    next_in w [] z = z
    next_in w (y ∷ ys) z = y

    first_turn : (w : ℕ) (ws : List ℕ) (z : ℕ) → Trail (TurnsTo d mates) w ws z → TurnsTo d mates w (next_in w ws z)
    first_turn w [] z t = t
    first_turn w (y ∷ ys) z t = t.0

-- a row has one mate
pub one_mate : (d : ShellRows) → PairedRows d → (r m k : ℕ) → AreNamedMates d r m → AreNamedMates d r k → m ≡ k
one_mate d paired zero m k a b = absurd (let h : None ≡ Some a.row = a.at_r in cc)
one_mate d paired (suc n) zero k a b = absurd (let h : None ≡ Some a.mate = a.at_m in cc)
one_mate d paired (suc n) (suc m) zero a b = absurd (let h : None ≡ Some b.mate = b.at_m in cc)
one_mate d paired (suc n) (suc m) (suc k) a b =
    let same : a.row ≡ b.row = same_Some a.row b.row (sym a.at_r ∙ b.at_r) in
    let pair : IsPaired d a.row.edge.0 = paired n a.row a.at_r in
    let edge_a : a.mate.edge.0 ≡ a.row.edge.0 = ap (λ (e : EdgeId). e.0) (sym a.one_edge) in
    let edge_b : b.mate.edge.0 ≡ a.row.edge.0 = ap (λ (e : EdgeId). e.0) (sym b.one_edge ∙ sym (ap (λ (r : Row). r.edge) same)) in
    let way_a : a.mate.along ≡ not a.row.along = not-not a.row.along a.mate.along a.opposite in
    let way_b : b.mate.along ≡ not a.row.along = not-not b.row.along b.mate.along b.opposite ∙ ap not (sym (ap (λ (r : Row). r.along) same)) in
    ap suc (one_of_edge d a.row.edge.0 (not a.row.along) m k a.mate b.mate (pair_counts d a.row.edge.0 (not a.row.along) pair) a.at_m b.at_m edge_a edge_b
    way_a way_b)

pub follows_one : (d : ShellRows) (m x y : ℕ) → FollowsAsNamed d m x → FollowsAsNamed d m y → x ≡ y
follows_one d zero x y f g = absurd f
follows_one d (suc m) zero y f g = absurd f
follows_one d (suc m) (suc x) zero f g = absurd g
follows_one d (suc m) (suc x) (suc y) f g = ap suc (same_Some x y (sym f ∙ g))

pub turns_one : (d : ShellRows) (mates : List (ℕ × ℕ)) → MatesHold d mates → PairedRows d → (r x y : ℕ) → TurnsTo d mates r x → TurnsTo d mates r y → x ≡ y
turns_one d mates hold paired r x y (m, is_m, f) (k, is_k, g) =
    let same : m ≡ k = one_mate d paired r m k (mates_named d mates r m hold is_m) (mates_named d mates r k hold is_k) in
    follows_one d m x y f (subst (λ z. FollowsAsNamed d z y) (sym same) g)

pub starts_listed : (d : ShellRows) (v x : ℕ) → StartsNamed d v x → Has (starting v 1 d.rows) x
starts_listed d v zero h = absurd (let e : None ≡ Some v = h in cc)
starts_listed d v (suc k) h = at_row (slice_get d.rows k) refl h
  where
    at_row : (o : Option Row) → slice_get d.rows k ≡ o → row_start o ≡ Some v → Has (starting v 1 d.rows) (suc k)
    at_row None e h = absurd cc
    at_row (Some r) e h = let number : 1 + k ≡ suc k = omega arith in subst (Has (starting v 1 d.rows)) number
        (starting_has v 1 k d.rows r e (same_Some r.from.0 v h))

pub above_least : (r : ℕ) (rs : List ℕ) → AllByRecursion (λ x. r < x) rs → Has rs r → ⊥
above_least r (x ∷ xs) all (inl e) = omega (arith, all.0, e)
above_least r (x ∷ xs) all (inr h) = above_least r xs all.1 h
above_least r [] all h = h

-- A fitting corner line shows that its vertex is a corner.
pub corner_from_line : (d : ShellRows) (at : Progress) (r : ℕ) (rs : List ℕ) → EndsMeet d → EndsExchanged d → MatesHold d at.mates → PairedRows d
    → (h : FitsCorner d at r rs) → IsCorner d h.vertex
corner_from_line d at r rs meet exchanged hold paired h =
    let R : ℕ → ℕ → Type 0 = TurnsTo d at.mates in
    let trail : Trail R r rs r = trail_from_zip R r rs r h.turns in
    let none : NoRepeat (r ∷ rs) = no_repeat R (turns_one d at.mates hold paired) r rs r trail (above_least r rs h.least) in
    let start : (x : ℕ) → Has (r ∷ rs) x → StartsNamed d h.vertex x = corner_starts d at.mates meet exchanged hold h.vertex r rs r trail h.lies_at in
    let few : length (starting h.vertex 1 d.rows) ≤ length (r ∷ rs) =
    omega (arith, h.whole, length-starting h.vertex 1 d.rows, count_by-total (λ (x : Row). x.from.0 == h.vertex) d.rows) in
    let listed : (n : ℕ) → StartsAt d h.vertex n → Has (r ∷ rs) (suc n) =
    λ n (row, at_n, e). covers (r ∷ rs) (starting h.vertex 1 d.rows) none (λ x m. starts_listed d h.vertex x (start x m)) few (suc n)
    (starts_listed d h.vertex (suc n) (start_of_row d (suc n) row at_n ∙ ap Some e)) in
    record {
      some = first_row r h.lies_at;
      one_cycle = λ a b at_a at_b.
          let there = leads_on R r rs r trail (suc a) (listed a at_a) in
          let back = leads_to R r rs r trail (suc b) (listed b at_b) in
          let chain = leads_trans R (suc a) r (suc b) there.0 there.1 back in
          (chain.0, chain_unnamed d at.mates hold chain.0 a b chain.1);
      no_point = h.no_point;
    }
  where
    first_row : (x : ℕ) → StartsNamed d h.vertex x → (n : ℕ) × StartsAt d h.vertex n
    first_row zero e = absurd (let k : None ≡ Some h.vertex = e in cc)
    first_row (suc n) e = at_row (slice_get d.rows n) refl e
      where
        at_row : (o : Option Row) → slice_get d.rows n ≡ o → row_start o ≡ Some h.vertex → (n : ℕ) × StartsAt d h.vertex n
        at_row None at e = absurd cc
        at_row (Some row) at e = (n, (row, at, same_Some row.from.0 h.vertex e))
