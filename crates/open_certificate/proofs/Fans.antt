-- A fitting cycle or path line lists the rows of one fan, and these are all rows that start at its vertex.
use Rattle.std.specs.Prelude.{◌≡◌, ℕ, zero, suc, ◌≤◌, ◌==◌, ◌&&◌, ◌⊎◌, Bool, true, false, not, List, [], ◌∷◌, length, Contains, Option, Some, None, slice_get}
use Rattle.std.proofs.Common.{refl, sym, ◌∙◌, ap, subst, arith, inl, inr, ⊎_elim}
use Rattle.std.proofs.lemmas.Bool.{eq-eqb, and_from}
use Rattle.std.proofs.lemmas.Option.{same_Some, none-some}
use Rattle.solid_data.specs.Chain.{LeadsTo}
use Rattle.solid_data.specs.declared.solid.EdgeId.{EdgeId}
use Rattle.edge_uses.specs.declared.row.Row.{Row}
use Rattle.edge_uses.specs.ShellRows.{ShellRows, EndsMeet}
use Rattle.edge_uses.specs.RowRelations.{AreMates, StartsAt, row_count}
use Rattle.solid_data.proofs.Members.{Has, NoRepeat, covers, count_by-total}
use Rattle.solid_data.proofs.Trail.{Trail, trail_from_zip, leads_trans, leads_to, leads_on, leads_one, leads_here, no_repeat}
use Rattle.edge_uses.proofs.RowShape.{EndsExchanged}
use Rattle.edge_uses.proofs.Turn.{not-not, one_of_edge}
use Rattle.edge_uses.proofs.RowNumbers.{starting, length-starting}
use Rattle.edge_uses.proofs.Counting.{counted, counts_of_edge}
use Rattle.cert_state.specs.Progress.{Progress, row_named, row_start, FollowsAsNamed, TurnsTo, FitsCorner}
use Rattle.cert_state.proofs.Corner.{AreNamedMates, MatesHold, mates_named, chain_unnamed, StartsNamed, start_of_row, turn_start_by, turns_row}
use Rattle.cert_state.proofs.Corner.{corner_starts, follows_one, starts_listed, above_least}
use Rattle.open_certificate.specs.Sound.{IsOnce, IsFan, row_total}
use Rattle.open_certificate.specs.Progress.{OpenProgress, IsChain, last_of, FitsPath}
use Rattle.open_certificate.proofs.Once.{OnceRows, way_one, total_uses}

-- a row that has the edge in this direction is counted
pub counted_way : (d : ShellRows) (e : ℕ) (b : Bool) (n : ℕ) (r : Row) → slice_get d.rows n ≡ Some r → r.edge.0 ≡ e → r.along ≡ b → 1 ≤ row_count d e b
counted_way d e true n r at is_e way =
    let p : Row → Bool = λ x. (x.edge.0 == e) && x.along in
    omega (arith, counted p d.rows n r at (and_from (r.edge.0 == e) r.along (eq-eqb r.edge.0 e is_e) way), count_by-total p d.rows)
counted_way d e false n r at is_e way =
    let p : Row → Bool = λ x. (x.edge.0 == e) && not x.along in
    omega (arith, counted p d.rows n r at (and_from (r.edge.0 == e) (not r.along) (eq-eqb r.edge.0 e is_e) (ap not way)), count_by-total p d.rows)

-- a row has one mate at most
pub one_mate_of : (d : ShellRows) → OnceRows d → (r m k : ℕ) → AreMates d r m → AreMates d r k → m ≡ k
one_mate_of d once r m k a b =
    let same : a.row ≡ b.row = same_Some a.row b.row (sym a.at_r ∙ b.at_r) in
    let one : IsOnce d a.row.edge.0 = once r a.row a.at_r in
    let edge_a : a.mate.edge.0 ≡ a.row.edge.0 = ap (λ (e : EdgeId). e.0) (sym a.one_edge) in
    let edge_b : b.mate.edge.0 ≡ a.row.edge.0 = ap (λ (e : EdgeId). e.0) (sym b.one_edge ∙ sym (ap (λ (x : Row). x.edge) same)) in
    let way_a : a.mate.along ≡ not a.row.along = not-not a.row.along a.mate.along a.opposite in
    let way_b : b.mate.along ≡ not a.row.along = not-not b.row.along b.mate.along b.opposite ∙ ap not (sym (ap (λ (x : Row). x.along) same)) in
    one_of_edge d a.row.edge.0 (not a.row.along) m k a.mate b.mate
    (way_one d a.row.edge.0 (not a.row.along) one (counted_way d a.row.edge.0 (not a.row.along) m a.mate a.at_m edge_a way_a)) a.at_m b.at_m edge_a edge_b
    way_a way_b

pub one_mate : (d : ShellRows) → OnceRows d → (r m k : ℕ) → AreNamedMates d r m → AreNamedMates d r k → m ≡ k
one_mate d once zero m k a b = absurd (let h : None ≡ Some a.row = a.at_r in cc)
one_mate d once (suc n) zero k a b = absurd (let h : None ≡ Some a.mate = a.at_m in cc)
one_mate d once (suc n) (suc m) zero a b = absurd (let h : None ≡ Some b.mate = b.at_m in cc)
one_mate d once (suc n) (suc m) (suc k) a b =
    ap suc (one_mate_of d once n m k
    (record { row = a.row; mate = a.mate; at_r = a.at_r; at_m = a.at_m; one_edge = a.one_edge; opposite = a.opposite })
    (record { row = b.row; mate = b.mate; at_r = b.at_r; at_m = b.at_m; one_edge = b.one_edge; opposite = b.opposite }))

pub turns_one : (d : ShellRows) (mates : List (ℕ × ℕ)) → MatesHold d mates → OnceRows d → (r x y : ℕ) → TurnsTo d mates r x → TurnsTo d mates r y → x ≡ y
turns_one d mates hold once r x y (m, is_m, f) (k, is_k, g) =
    let same : m ≡ k = one_mate d once r m k (mates_named d mates r m hold is_m) (mates_named d mates r k hold is_k) in
    follows_one d m x y f (subst (λ z. FollowsAsNamed d z y) (sym same) g)

not_itself : (b : Bool) → b ≡ not b → ⊥
not_itself true h = cc
not_itself false h = cc

-- an edge of one row doesn't have one in each direction
pub both_ways_counted : (d : ShellRows) (e : ℕ) → row_total d e ≡ 1 → 1 ≤ row_count d e true → 1 ≤ row_count d e false → ⊥
both_ways_counted d e one p q = omega (arith, one, p, q, total_uses d e, counts_of_edge d e)

-- the only row of an edge has no mate
pub lone_no_mate : (d : ShellRows) (r m : ℕ) (row : Row) → slice_get d.rows r ≡ Some row → row_total d row.edge.0 ≡ 1 → AreMates d r m → ⊥
lone_no_mate d r m row at one a =
    let same : a.row ≡ row = same_Some a.row row (sym a.at_r ∙ at) in
    let e : ℕ = row.edge.0 in
    let edge_r : a.row.edge.0 ≡ e = ap (λ (x : Row). x.edge.0) same in
    let edge_m : a.mate.edge.0 ≡ e = ap (λ (x : EdgeId). x.0) (sym a.one_edge) ∙ edge_r in
    let once : IsOnce d e = inl one in
    by_way (a.row.along) refl (a.mate.along) refl edge_r edge_m
  where
    by_way : (b : Bool) → a.row.along ≡ b → (c : Bool) → a.mate.along ≡ c → a.row.edge.0 ≡ row.edge.0 → a.mate.edge.0 ≡ row.edge.0 → ⊥
    by_way true x true y er em = not_itself true (sym x ∙ (a.opposite ∙ ap not y))
    by_way false x false y er em = not_itself false (sym x ∙ (a.opposite ∙ ap not y))
    by_way true x false y er em = two (counted_way d row.edge.0 true r a.row a.at_r er x) (counted_way d row.edge.0 false m a.mate a.at_m em y)
      where
        two : 1 ≤ row_count d row.edge.0 true → 1 ≤ row_count d row.edge.0 false → ⊥
        two p q = both_ways_counted d row.edge.0 one p q
    by_way false x true y er em = two (counted_way d row.edge.0 true m a.mate a.at_m em y) (counted_way d row.edge.0 false r a.row a.at_r er x)
      where
        two : 1 ≤ row_count d row.edge.0 true → 1 ≤ row_count d row.edge.0 false → ⊥
        two p q = both_ways_counted d row.edge.0 one p q

pub lone_no_turn : (d : ShellRows) (mates : List (ℕ × ℕ)) → MatesHold d mates → (r s : ℕ) (row : Row) → row_named d r ≡ Some row → row_total d row.edge.0 ≡ 1
    → TurnsTo d mates r s → ⊥
lone_no_turn d mates hold r s row at one t = by_numbers r t.0 (mates_named d mates r t.0 hold t.1) at
  where
    by_numbers : (x m : ℕ) → AreNamedMates d x m → row_named d x ≡ Some row → ⊥
    by_numbers zero m a at = none-some a.row a.at_r
    by_numbers (suc x) zero a at = none-some a.mate a.at_m
    by_numbers (suc x) (suc m) a at =
        lone_no_mate d x m row at one (record { row = a.row; mate = a.mate; at_r = a.at_r; at_m = a.at_m; one_edge = a.one_edge; opposite = a.opposite })

-- Chains.

-- what comes after an element of a chain
next_in_chain : (R : ℕ → ℕ → Type 0) (x : ℕ) (xs : List ℕ) → IsChain R x xs → (y : ℕ) → Has (x ∷ xs) y → (y ≡ last_of x xs) ⊎ ((w : ℕ) × R y w × Has xs w)
next_in_chain R x [] c y (inl e) = inl (sym e)
next_in_chain R x [] c y (inr h) = absurd h
next_in_chain R x (v ∷ vs) c y (inl e) = inr (v, subst (λ u. R u v) e c.0, inl refl)
next_in_chain R x (v ∷ vs) c y (inr h) = ⊎_elim (λ e. inl e) (λ k. inr (k.0, k.1, inr k.2)) (next_in_chain R v vs c.1 y h)

-- Where R leads to one number at most, a chain to a number from which R leads nowhere has no repeats.
pub chain_no_repeat : (R : ℕ → ℕ → Type 0) → ((x y z : ℕ) → R x y → R x z → y ≡ z) → (x : ℕ) (xs : List ℕ) → IsChain R x xs
    → ((w : ℕ) → R (last_of x xs) w → ⊥) → NoRepeat (x ∷ xs)
chain_no_repeat R one x [] c stuck = ((λ h. h), tt)
chain_no_repeat R one x (w ∷ ws) c stuck =
    let later : NoRepeat (w ∷ ws) = chain_no_repeat R one w ws c.1 stuck in (
      (λ h. ⊎_elim (λ e. stuck w (subst (λ u. R u w) e c.0)) (λ k. later.0 (subst (Has ws) (one x k.0 w k.1 c.0) k.2)) (next_in_chain R w ws c.1 x h)),
      later,
    )

chain_to : (R : ℕ → ℕ → Type 0) (x : ℕ) (xs : List ℕ) → IsChain R x xs → (y : ℕ) → Has (x ∷ xs) y → LeadsTo R x y
chain_to R x xs c y (inl e) = subst (LeadsTo R x) e (leads_here R x)
chain_to R x [] c y (inr h) = absurd h
chain_to R x (w ∷ ws) c y (inr h) = leads_one R x w y c.0 (chain_to R w ws c.1 y h)

-- of any two numbers of a chain R leads from one to the other
pub chain_leads : (R : ℕ → ℕ → Type 0) (x : ℕ) (xs : List ℕ) → IsChain R x xs → (a b : ℕ) → Has (x ∷ xs) a → Has (x ∷ xs) b → LeadsTo R a b ⊎ LeadsTo R b a
chain_leads R x xs c a b (inl e) h = inl (subst (λ u. LeadsTo R u b) e (chain_to R x xs c b h))
chain_leads R x xs c a b (inr m) (inl e) = inr (subst (λ u. LeadsTo R u a) e (chain_to R x xs c a (inr m)))
chain_leads R x [] c a b (inr m) (inr n) = absurd m
chain_leads R x (w ∷ ws) c a b (inr m) (inr n) = chain_leads R w ws c.1 a b m n

-- the rows of a path line start at its vertex
path_starts : (d : ShellRows) (mates : List (ℕ × ℕ)) → EndsMeet d → EndsExchanged d → MatesHold d mates → (v r : ℕ) (rs : List ℕ) (end : Row)
    → IsChain (TurnsTo d mates) r rs → row_named d (last_of r rs) ≡ Some end → StartsNamed d v r → (x : ℕ) → Has (r ∷ rs) x → StartsNamed d v x
path_starts d mates meet exchanged hold v r rs end c at_end start x (inl e) = subst (StartsNamed d v) e start
path_starts d mates meet exchanged hold v r [] end c at_end start x (inr h) = absurd h
path_starts d mates meet exchanged hold v r (w ∷ ws) end c at_end start x (inr h) =
    let row = row_of w ws c.1 at_end in
    let a = mates_named d mates r c.0.0 hold c.0.1 in
    path_starts d mates meet exchanged hold v w ws end c.1 at_end (turn_start_by d meet exchanged v r c.0.0 w a c.0.2 row.0 row.1 start) x h
  where
    row_of : (y : ℕ) (ys : List ℕ) → IsChain (TurnsTo d mates) y ys → row_named d (last_of y ys) ≡ Some end → (row : Row) × (row_named d y ≡ Some row)
    row_of y [] k e = (end, e)
    row_of y (z ∷ zs) k e = turns_row d mates y z hold k.0

first_row : (d : ShellRows) (v x : ℕ) → StartsNamed d v x → (n : ℕ) × StartsAt d v n
first_row d v zero e = absurd (let k : None ≡ Some v = e in cc)
first_row d v (suc n) e = at_row (slice_get d.rows n) refl e
  where
    at_row : (o : Option Row) → slice_get d.rows n ≡ o → row_start o ≡ Some v → (n : ℕ) × StartsAt d v n
    at_row None at e = absurd cc
    at_row (Some row) at e = (n, (row, at, same_Some row.from.0 v e))

-- all rows that start at the vertex are among as many different ones that do
all_listed : (d : ShellRows) (v r : ℕ) (rs : List ℕ) → NoRepeat (r ∷ rs) → ((x : ℕ) → Has (r ∷ rs) x → StartsNamed d v x)
    → length (starting v 1 d.rows) ≤ length (r ∷ rs) → (n : ℕ) → StartsAt d v n → Has (r ∷ rs) (suc n)
all_listed d v r rs none start few n (row, at_n, e) = covers (r ∷ rs) (starting v 1 d.rows) none (λ x m. starts_listed d v x (start x m)) few (suc n)
    (starts_listed d v (suc n) (start_of_row d (suc n) row at_n ∙ ap Some e))

-- A fitting cycle line shows that its vertex has one fan.
pub fan_from_cycle : (d : ShellRows) (at : Progress) (r : ℕ) (rs : List ℕ) → EndsMeet d → EndsExchanged d → MatesHold d at.mates → OnceRows d
    → (h : FitsCorner d at r rs) → IsFan d h.vertex
fan_from_cycle d at r rs meet exchanged hold once h =
    let R : ℕ → ℕ → Type 0 = TurnsTo d at.mates in
    let trail : Trail R r rs r = trail_from_zip R r rs r h.turns in
    let none : NoRepeat (r ∷ rs) = no_repeat R (turns_one d at.mates hold once) r rs r trail (above_least r rs h.least) in
    let start : (x : ℕ) → Has (r ∷ rs) x → StartsNamed d h.vertex x = corner_starts d at.mates meet exchanged hold h.vertex r rs r trail h.lies_at in
    let few : length (starting h.vertex 1 d.rows) ≤ length (r ∷ rs) =
    omega (arith, h.whole, length-starting h.vertex 1 d.rows, count_by-total (λ (x : Row). x.from.0 == h.vertex) d.rows) in
    record {
      some = first_row d h.vertex r h.lies_at;
      one_fan = λ a b at_a at_b.
          let there = leads_on R r rs r trail (suc a) (all_listed d h.vertex r rs none start few a at_a) in
          let back = leads_to R r rs r trail (suc b) (all_listed d h.vertex r rs none start few b at_b) in
          let chain = leads_trans R (suc a) r (suc b) there.0 there.1 back in
          inl (chain.0, chain_unnamed d at.mates hold chain.0 a b chain.1);
      no_point = h.no_point;
    }

-- A fitting path line does.
pub fan_from_path : (d : ShellRows) (at : OpenProgress) (r : ℕ) (rs : List ℕ) → EndsMeet d → EndsExchanged d → MatesHold d at.mates → OnceRows d
    → ((a : ℕ) → Contains at.lone a → (row : Row) × (row_named d a ≡ Some row) × (row_total d row.edge.0 ≡ 1))
    → (h : FitsPath d at r rs) → IsFan d h.vertex
fan_from_path d at r rs meet exchanged hold once lone h =
    let R : ℕ → ℕ → Type 0 = TurnsTo d at.mates in
    let end = lone (last_of r rs) h.ends in
    let none : NoRepeat (r ∷ rs) = chain_no_repeat R (turns_one d at.mates hold once) r rs h.turns
    (λ w t. lone_no_turn d at.mates hold (last_of r rs) w end.0 end.1 end.2 t) in
    let start : (x : ℕ) → Has (r ∷ rs) x → StartsNamed d h.vertex x = path_starts d at.mates meet exchanged hold h.vertex r rs end.0 h.turns end.1 h.lies_at in
    let few : length (starting h.vertex 1 d.rows) ≤ length (r ∷ rs) =
    omega (arith, h.whole, length-starting h.vertex 1 d.rows, count_by-total (λ (x : Row). x.from.0 == h.vertex) d.rows) in
    record {
      some = first_row d h.vertex r h.lies_at;
      one_fan = λ a b at_a at_b.
          ⊎_elim (λ c. inl (c.0, chain_unnamed d at.mates hold c.0 a b c.1)) (λ c. inr (c.0, chain_unnamed d at.mates hold c.0 b a c.1))
          (chain_leads R r rs h.turns (suc a) (suc b) (all_listed d h.vertex r rs none start few a at_a) (all_listed d h.vertex r rs none start few b at_b));
      no_point = h.no_point;
    }
