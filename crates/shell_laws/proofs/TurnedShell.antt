-- A closed shell stays closed if it is turned.
use Rattle.std.specs.Prelude.{◌≡◌, ℕ, zero, suc, ◌+◌, ◌==◌, ◌&&◌, Bool, true, false, not, List, [], ◌∷◌, map, cond, count_by, Option, Some, None, option_map}
use Rattle.std.specs.Prelude.{slice_get}
use Rattle.std.specs.List.{AllByRecursion}
use Rattle.std.proofs.Common.{refl, sym, ◌∙◌, ap, subst, inl, inr}
use Rattle.std.proofs.lemmas.Option.{same_Some, slice_get-map}
use Rattle.solid_data.specs.Chain.{Steps, LeadsTo}
use Rattle.solid_data.specs.SolidData.{SolidData, PlacedLoop, placed_loops}
use Rattle.solid_data.specs.declared.solid.Shell.{Shell}
use Rattle.solid_data.proofs.Members.{All-at, has_get, total, total-same, count_by-total}
use Rattle.solid_data.proofs.ObligationLemmas.{AllByRecursion-weaker}
use Rattle.solid_data.proofs.Trail.{leads_here, leads_last}
use Rattle.edge_uses.specs.declared.row.Row.{Row}
use Rattle.edge_uses.specs.ShellRows.{ShellRows, shell_rows}
use Rattle.edge_uses.specs.Joins.{IsJoined}
use Rattle.edge_uses.specs.RowRelations.{row_count, IsPaired, AreMates, Follows, Turns, StartsAt, OnFace, point_count}
use Rattle.edge_uses.specs.Around.{IsLinked, AreNeighbours, IsReached}
use Rattle.edge_uses.specs.Before.{IsApart}
use Rattle.edge_uses.proofs.FollowRows.{EachIsFollowed, each_is_followed}
use Rattle.edge_uses.proofs.RowFacts.{edges_known}
use Rattle.edge_uses.proofs.RowShape.{EndsExchanged, ends_exchanged}
use Rattle.edge_uses.proofs.Turn.{PairedRows, one_mate, has_mate, not-not}
use Rattle.edge_uses.proofs.Turns.{mates_back}
use Rattle.shell_rules.specs.Closed.{IsClosedShell}
use Rattle.shell_laws.specs.Turned.{turned, TurnedStaysClosed}
use Rattle.shell_laws.proofs.TurnedRows.{AreTurned, turned_row, turned_loop, loops_turned, shell_rows_turned}

-- what a map gives at a place
pub get_mapped : {A B : Type 0} (f : A → B) (xs : List A) (ys : List B) → ys ≡ map f xs → (k : ℕ) (x : A) → slice_get xs k ≡ Some x
    → slice_get ys k ≡ Some (f x)
get_mapped f xs ys e k x at = ap (λ zs. slice_get zs k) e ∙ (slice_get-map f xs k ∙ ap (option_map f) at)

pub get_unmapped : {A B : Type 0} (f : A → B) (xs : List A) (ys : List B) → ys ≡ map f xs → (k : ℕ) (y : B) → slice_get ys k ≡ Some y
    → (x : A) × (slice_get xs k ≡ Some x) × (y ≡ f x)
get_unmapped {A} {B} f xs ys e k y at = by_option (slice_get xs k) refl
    (sym (slice_get-map f xs k) ∙ (sym (ap (λ zs. slice_get zs k) e) ∙ at))
  where
    by_option : (o : Option A) → slice_get xs k ≡ o → option_map f (slice_get xs k) ≡ Some y → (x : A) × (slice_get xs k ≡ Some x) × (y ≡ f x)
    by_option None is h = absurd (none_is (ap (option_map f) (sym is) ∙ h))
      where
        none_is : None ≡ Some y → ⊥
        none_is z = cc
    by_option (Some x) is h = (x, is, sym (same_Some (f x) y (ap (option_map f) (sym is) ∙ h)))

pub total-map : {A B : Type 0} (f : A → B) (g : B → ℕ) (xs : List A) → total g (map f xs) ≡ total (λ x. g (f x)) xs
total-map f g [] = refl
total-map f g (x ∷ xs) = ap (λ n. g (f x) + n) (total-map f g xs)

module _ (c d : ShellRows) (t : AreTurned c d) where
  row_there : (r : ℕ) (row : Row) → slice_get c.rows r ≡ Some row → slice_get d.rows r ≡ Some (turned_row row)
  row_there r row at = get_mapped turned_row c.rows d.rows t.rows r row at

  row_here : (r : ℕ) (row : Row) → slice_get d.rows r ≡ Some row → (x : Row) × (slice_get c.rows r ≡ Some x) × (row ≡ turned_row x)
  row_here r row at = get_unmapped turned_row c.rows d.rows t.rows r row at

  mates_there : (r m : ℕ) → AreMates c r m → AreMates d r m
  mates_there r m h = record {
    row = turned_row h.row;
    mate = turned_row h.mate;
    at_r = row_there r h.row h.at_r;
    at_m = row_there m h.mate h.at_m;
    one_edge = h.one_edge;
    opposite = ap not h.opposite;
  }

  -- ---- PAIR

  along_counts : (e : ℕ) → row_count d e true ≡ row_count c e false
  along_counts e =
      ap (count_by (λ (r : Row). (r.edge.0 == e) && r.along)) t.rows
      ∙ (count_by-total (λ (r : Row). (r.edge.0 == e) && r.along) (map turned_row c.rows)
      ∙ (total-map turned_row (λ (r : Row). cond ((r.edge.0 == e) && r.along) 1 0) c.rows
      ∙ sym (count_by-total (λ (r : Row). (r.edge.0 == e) && not r.along) c.rows)))

  twice_not : (b : Bool) → not (not b) ≡ b
  twice_not true = refl
  twice_not false = refl

  against_counts : (e : ℕ) → row_count d e false ≡ row_count c e true
  against_counts e =
      ap (count_by (λ (r : Row). (r.edge.0 == e) && not r.along)) t.rows
      ∙ (count_by-total (λ (r : Row). (r.edge.0 == e) && not r.along) (map turned_row c.rows)
      ∙ (total-map turned_row (λ (r : Row). cond ((r.edge.0 == e) && not r.along) 1 0) c.rows
      ∙ (total-same (λ (r : Row). cond ((r.edge.0 == e) && not (not r.along)) 1 0) (λ (r : Row). cond ((r.edge.0 == e) && r.along) 1 0)
      (λ r. ap (λ b. cond ((r.edge.0 == e) && b) 1 0) (twice_not r.along)) c.rows
      ∙ sym (count_by-total (λ (r : Row). (r.edge.0 == e) && r.along) c.rows))))

  still_paired : (e : ℕ) → IsPaired c e → IsPaired d e
  still_paired e p = (along_counts e ∙ p.1, against_counts e ∙ p.0)

  -- ---- REACH

  face_there : (face r : ℕ) → OnFace c face r → OnFace d face r
  face_there face r (row, at, on) = (turned_row row, row_there r row at, on)

  steps_there : (n a b : ℕ) → Steps (AreNeighbours c) n a b → Steps (AreNeighbours d) n a b
  steps_there zero a b e = e
  steps_there (suc n) a b (x, (r, m, mates, on_a, on_x), rest) =
      (x, (r, m, mates_there r m mates, face_there a r on_a, face_there x m on_x), steps_there n x b rest)

  still_reached : (face : ℕ) → IsReached c face → IsReached d face
  still_reached face (n, steps) = (n, steps_there n 0 face steps)

  -- ---- LINK

  same_count : (v : ℕ) → point_count d v ≡ point_count c v
  same_count v = ap (count_by (λ (p : _ × ℕ). p.1 == v)) t.points

  module _ (paired : PairedRows c) (exchanged : EndsExchanged c) (followed : EachIsFollowed c) where
    -- A row that starts at the vertex after the turn ended there, and its mate started there.
    start_mate : (v r : ℕ) → StartsAt d v r → (m : ℕ) × AreMates c r m × StartsAt c v m
    start_mate v r (row, at, starts) =
        let x = row_here r row at in
        let m = has_mate c paired r x.0 x.1 in
        let k : AreMates c r m.0 = m.1 in
        let same : x.0 ≡ k.row = same_Some x.0 k.row (sym x.1 ∙ k.at_r) in
        let ends : k.mate.from.0 ≡ k.row.to.0 =
        exchanged m.0 r k.mate k.row k.at_m k.at_r (sym k.one_edge) (not-not k.row.along k.mate.along k.opposite) in
        (m.0, k, (k.mate, k.at_m, ends ∙ (ap (λ (w : Row). w.to.0) (sym same) ∙ (sym (ap (λ (w : Row). w.from.0) x.2) ∙ starts))))

    -- Turns from the mate of s to that of r are turns from r to s, after the turn.
    turns_back : (n x y r s : ℕ) → Steps (Turns c) n x y → AreMates c x s → AreMates c y r → LeadsTo (Turns d) r s
    turns_back zero x y r s e to_s to_r =
        let same : r ≡ s = one_mate c paired x r s (subst (λ z. AreMates c z r) (sym e) to_r) to_s in
        subst (LeadsTo (Turns d) r) same (leads_here (Turns d) r)
    turns_back (suc n) x y r s (z, (m, mates, follows), rest) to_s to_r =
        let same : m ≡ s = one_mate c paired x m s mates to_s in
        let next = followed m mates.mate mates.at_m in
        let is : next.0 ≡ z = same_Some next.0 z (sym next.2 ∙ follows) in
        let k = has_mate c paired z next.1 (subst (λ q. slice_get c.rows q ≡ Some next.1) is next.3) in
        let chain : LeadsTo (Turns d) r k.0 = turns_back n z y r k.0 rest k.1 to_r in
        let turn : Turns d k.0 s = (z, mates_there k.0 z (mates_back c z k.0 k.1), subst (λ q. Follows d z q) same (t.follows m z follows)) in
        leads_last (Turns d) r k.0 s chain turn

    -- the mate of a row that started there starts there
    some_start : (v : ℕ) → (r : ℕ) × StartsAt c v r → (r : ℕ) × StartsAt d v r
    some_start v (r, (row, at, starts)) =
        let m = has_mate c paired r row at in
        let k : AreMates c r m.0 = m.1 in
        let same : row ≡ k.row = same_Some row k.row (sym at ∙ k.at_r) in
        let ends : k.row.from.0 ≡ k.mate.to.0 = exchanged r m.0 k.row k.mate k.at_r k.at_m k.one_edge k.opposite in
        (m.0, (turned_row k.mate, row_there m.0 k.mate k.at_m, sym ends ∙ (ap (λ (w : Row). w.from.0) (sym same) ∙ starts)))

    still_linked : (v : ℕ) → IsLinked c v → IsLinked d v
    still_linked v (inl h) = inl (record {
      some = some_start v h.some;
      one_cycle = λ r s at_r at_s.
          let a = start_mate v r at_r in
          let b = start_mate v s at_s in
          let chain = h.one_cycle b.0 a.0 b.2 a.2 in
          turns_back chain.0 b.0 a.0 r s chain.1 (mates_back c s b.0 b.1) (mates_back c r a.0 a.1);
      no_point = same_count v ∙ h.no_point;
    })
    still_linked v (inr h) = inr (record {
      no_row = λ r at. let m = start_mate v r at in h.no_row m.0 m.2;
      one_point = same_count v ∙ h.one_point;
    })

pub each_mapped : {A B : Type 0} (f : A → B) (P : A → Type 0) (Q : B → Type 0) → ((x : A) → P x → Q (f x)) → (xs : List A) → AllByRecursion P xs
    → AllByRecursion Q (map f xs)
each_mapped f P Q h [] all = tt
each_mapped f P Q h (x ∷ xs) all = (h x all.0, each_mapped f P Q h xs all.1)

pub rows_paired : (s : SolidData) (k : ℕ) (h : Shell) → IsClosedShell s k h → PairedRows (shell_rows s h)
rows_paired s k h closed n row at =
    let d : ShellRows = shell_rows s h in
    All-at (IsPaired d) d.edges closed.paired row.edge.0 (All-at _ d.rows (edges_known s h) row (has_get d.rows n row at))

pub turned_shell : TurnedStaysClosed
turned_shell s k h closed =
    let c : ShellRows = shell_rows s h in
    let d : ShellRows = shell_rows s (turned h) in
    let t : AreTurned c d = shell_rows_turned s h in
    let paired = rows_paired s k h closed in
    record {
      joined = subst (AllByRecursion (λ (p : PlacedLoop). IsJoined s p.loop)) (sym (loops_turned h))
          (each_mapped turned_loop (λ (p : PlacedLoop). IsJoined s p.loop) (λ (p : PlacedLoop). IsJoined s p.loop) (λ p j. j) (placed_loops h) closed.joined);
      paired = subst (AllByRecursion (IsPaired d)) (sym t.edges) (AllByRecursion-weaker (IsPaired c) (IsPaired d) c.edges (still_paired c d t) closed.paired);
      reached = AllByRecursion-weaker (IsReached c) (IsReached d) _ (still_reached c d t) closed.reached;
      linked = subst (AllByRecursion (IsLinked d)) (sym t.vertices) (AllByRecursion-weaker (IsLinked c) (IsLinked d) c.vertices
          (still_linked c d t paired (ends_exchanged s h) (each_is_followed s h)) closed.linked);
      apart = subst (AllByRecursion (IsApart s k)) (sym t.vertices) closed.apart;
    }
