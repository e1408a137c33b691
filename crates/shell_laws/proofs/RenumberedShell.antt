-- A shell that is closed in one solid is closed in another that has it under other numbers.
use Rattle.std.specs.Prelude.{◌≡◌, ℕ, zero, suc, ◌==◌, ◌&&◌, Bool, true, false, not, cond, List, [], ◌∷◌, length, map}
use Rattle.std.specs.Prelude.{count_by, Some, slice_get}
use Rattle.std.specs.List.{AllByRecursion, AllZip}
use Rattle.std.proofs.Common.{refl, sym, ◌∙◌, ap, subst, arith, inl, inr, ⊎_elim}
use Rattle.std.proofs.lemmas.Bool.Decides.{eqb_tells}
use Rattle.std.proofs.lemmas.List.{map-append}
use Rattle.std.proofs.lemmas.Option.{slice_get_within}
use Rattle.solid_data.specs.Chain.{Steps}
use Rattle.solid_data.specs.Ring.{next_of_each, numbers_from}
use Rattle.solid_data.specs.SolidData.{SolidData, PlacedLoop, placed_loops, shell_uses, shell_edges, shell_vertices, edge_used, ends_of, vertices_used}
use Rattle.solid_data.specs.declared.solid.Edge.{Edge}
use Rattle.solid_data.specs.declared.solid.EdgeId.{EdgeId}
use Rattle.solid_data.specs.declared.solid.FaceUse.{FaceUse}
use Rattle.solid_data.specs.declared.solid.LoopAt.{LoopAt}
use Rattle.solid_data.specs.declared.solid.LoopUse.{LoopUse}
use Rattle.solid_data.specs.declared.solid.LoopUse.TheVariants.{EdgeUse, VertexUse}
use Rattle.solid_data.specs.declared.solid.Shell.{Shell}
use Rattle.solid_data.proofs.Members.{Has, Has-from_Contains, Contains-from_Has, All-at, All-from, has_get, has_append, has_flat_map, from_flat_map, has_map}
use Rattle.solid_data.proofs.Members.{map_has}
use Rattle.solid_data.proofs.Members.{total, count_by-total}
use Rattle.solid_data.proofs.Occurring.{occurs, VerticesKnown}
use Rattle.solid_data.proofs.Occurs.{from_occurring}
use Rattle.edge_uses.specs.declared.row.Row.{Row}
use Rattle.edge_uses.specs.ShellRows.{ShellRows, shell_rows}
use Rattle.edge_uses.specs.Joins.{IsJoined, begin_of, start_of, end_of}
use Rattle.edge_uses.specs.RowRelations.{IsPaired, AreMates, Turns, StartsAt, OnFace, point_count}
use Rattle.edge_uses.specs.Around.{IsLinked, AreNeighbours, IsReached}
use Rattle.edge_uses.specs.Before.{IsApart}
use Rattle.edge_uses.proofs.RowFacts.{edges_known, starts_known, points_known}
use Rattle.edge_uses.proofs.Turn.{edge_id}
use Rattle.shell_rules.specs.Closed.{IsClosedShell}
use Rattle.shell_laws.specs.Renumbered.{Renumbering, renumbered_use, IsRenumberedFace, IsRenumberedEdge, IsRenumbered, RenumberedStaysClosed}
use Rattle.shell_laws.proofs.RenumberedRows.{renumbered_row, renumbered_point, AreRenumbered, IsRenumberedPlaced, placed, uses_as, shell_rows_as}
use Rattle.shell_laws.proofs.TurnedShell.{get_mapped, get_unmapped, total-map}

-- ---- lists of numbers

same_test : (n m p q : ℕ) → (n ≡ m → p ≡ q) → (p ≡ q → n ≡ m) → (p == q) ≡ (n == m)
same_test n m p q there back =
    ⊎_elim
    (λ y. ⊎_elim (λ z. z.0 ∙ sym y.0) (λ z. absurd (z.1 (there y.1))) (eqb_tells p q))
    (λ y. ⊎_elim (λ z. absurd (y.1 (back z.1))) (λ z. z.0 ∙ sym y.0) (eqb_tells p q))
    (eqb_tells n m)

total_alike : {A : Type 0} (f g : A → ℕ) (xs : List A) → ((x : A) → Has xs x → f x ≡ g x) → total f xs ≡ total g xs
total_alike f g [] h = refl
total_alike f g (x ∷ xs) h = omega (arith, h x (inl refl), total_alike f g xs (λ y m. h y (inr m)))

next_in : (xs : List ℕ) (v : ℕ) → Has (next_of_each xs) v → Has xs v
next_in [] v h = h
next_in (x ∷ xs) v h = ⊎_elim inr (λ k. ⊎_elim inl (λ m. absurd m) k) (has_append xs (x ∷ []) v h)

map_next : (f : ℕ → ℕ) (xs : List ℕ) → next_of_each (map f xs) ≡ map f (next_of_each xs)
map_next f [] = refl
map_next f (x ∷ xs) = sym (map-append f xs (x ∷ []))

-- where f makes no two of them one, lists of numbers that it makes one are one
apart_lists : (f : ℕ → ℕ) (P : ℕ → Type 0) → ((v w : ℕ) → P v → P w → f v ≡ f w → v ≡ w) → (xs ys : List ℕ) → ((v : ℕ) → Has xs v → P v)
    → ((v : ℕ) → Has ys v → P v) → map f xs ≡ map f ys → xs ≡ ys
apart_lists f P apart [] [] p q e = refl
apart_lists f P apart [] (y ∷ ys) p q e = absurd cc
apart_lists f P apart (x ∷ xs) [] p q e = absurd cc
apart_lists f P apart (x ∷ xs) (y ∷ ys) p q e =
    let first : f x ≡ f y = cc in
    let more : map f xs ≡ map f ys = cc in
    ap (λ z. z ∷ xs) (apart x y (p x (inl refl)) (q y (inl refl)) first)
    ∙ ap (λ zs. y ∷ zs) (apart_lists f P apart xs ys (λ v m. p v (inr m)) (λ v m. q v (inr m)) more)

module _ (r : Renumbering) (s t : SolidData) (a b : Shell) (h : IsRenumbered r s t a b) where
  abbrev c : ShellRows
  c = shell_rows s a

  abbrev d : ShellRows
  d = shell_rows t b

  rows : AreRenumbered r c d
  rows = shell_rows_as r s t a b h

  one_edge : (e g : ℕ) → Has (shell_edges a) e → Has (shell_edges a) g → r.edge e ≡ r.edge g → e ≡ g
  one_edge e g m n same = h.edges_apart e g (Contains-from_Has (shell_edges a) e m) (Contains-from_Has (shell_edges a) g n) same

  one_vertex : (v w : ℕ) → Has (shell_vertices s a) v → Has (shell_vertices s a) w → r.vertex v ≡ r.vertex w → v ≡ w
  one_vertex v w m n same = h.vertices_apart v w (Contains-from_Has (shell_vertices s a) v m) (Contains-from_Has (shell_vertices s a) w n) same

  known : VerticesKnown s a
  known v m = (h.vertices v (Contains-from_Has (shell_vertices s a) v m)).0

  edge_used_here : (e : ℕ) → Has c.edges e → Has (shell_edges a) e
  unfolding shell_rows
  edge_used_here e m = from_occurring (numbers_from 0 (length s.edges)) (shell_edges a) e m

  vertex_used_here : (v : ℕ) → Has c.vertices v → Has (shell_vertices s a) v
  unfolding shell_rows
  vertex_used_here v m = from_occurring (numbers_from 0 (length s.vertices)) (shell_vertices s a) v m

  row_edge : (x : Row) → Has c.rows x → Has (shell_edges a) x.edge.0
  row_edge x m = edge_used_here x.edge.0 (All-at _ c.rows (edges_known s a) x m)

  row_start : (x : Row) → Has c.rows x → Has (shell_vertices s a) x.from.0
  row_start x m = vertex_used_here x.from.0 (All-at _ c.rows (starts_known s a known) x m)

  point_vertex : (p : LoopAt × ℕ) → Has c.points p → Has (shell_vertices s a) p.1
  point_vertex p m = vertex_used_here p.1 (All-at _ c.points (points_known s a known) p m)

  -- ---- the edges and the vertices occur there too

  use_there : (u : LoopUse) → Has (shell_uses a) u → Has (shell_uses b) (renumbered_use r u)
  use_there u m = subst (λ us. Has us (renumbered_use r u)) (sym (uses_as r a b h.shell)) (map_has (renumbered_use r) (shell_uses a) u m)

  edge_there : (e : ℕ) → Has (shell_edges a) e → Has (shell_edges b) (r.edge e)
  edge_there e m = let u = from_flat_map edge_used (shell_uses a) e m in of_use u.0 u.1 u.2
    where
      of_use : (u : LoopUse) → Has (shell_uses a) u → Has (edge_used u) e → Has (shell_edges b) (r.edge e)
      of_use (VertexUse vertex) m k = absurd k
      of_use (EdgeUse edge along) m (inr k) = absurd k
      of_use (EdgeUse edge along) m (inl same) =
          has_flat_map edge_used (shell_uses b) (renumbered_use r (EdgeUse edge along)) (r.edge e) (use_there (EdgeUse edge along) m) (inl (ap r.edge same))

  vertex_there : (v : ℕ) → Has (shell_vertices s a) v → Has (shell_vertices t b) (r.vertex v)
  vertex_there v m = let u = from_flat_map (vertices_used s) (shell_uses a) v m in of_use u.0 u.1 u.2
    where
      of_ends : (x y : Edge) → IsRenumberedEdge r x y → Has (ends_of (Some x)) v → Has (ends_of (Some y)) (r.vertex v)
      of_ends x y k (inl same) = inl (k.from ∙ ap r.vertex same)
      of_ends x y k (inr (inl same)) = inr (inl (k.to ∙ ap r.vertex same))
      of_ends x y k (inr (inr m)) = absurd m

      of_use : (u : LoopUse) → Has (shell_uses a) u → Has (vertices_used s u) v → Has (shell_vertices t b) (r.vertex v)
      of_use (VertexUse vertex) m (inr k) = absurd k
      of_use (VertexUse vertex) m (inl same) =
          has_flat_map (vertices_used t) (shell_uses b) (renumbered_use r (VertexUse vertex)) (r.vertex v) (use_there (VertexUse vertex) m)
          (inl (ap r.vertex same))
      of_use (EdgeUse edge along) m k =
          let used = has_flat_map edge_used (shell_uses a) (EdgeUse edge along) edge.0 m (inl refl) in
          let x = h.edges edge.0 (Contains-from_Has (shell_edges a) edge.0 used) in
          has_flat_map (vertices_used t) (shell_uses b) (renumbered_use r (EdgeUse edge along)) (r.vertex v) (use_there (EdgeUse edge along) m)
          (subst (λ o. Has (ends_of o) (r.vertex v)) (sym x.3) (of_ends x.0 x.1 x.4 (subst (λ o. Has (ends_of o) v) x.2 k)))

  edge_occurs : (e : ℕ) → Has c.edges e → Has d.edges (r.edge e)
  unfolding shell_rows
  edge_occurs e m =
      let used = edge_used_here e m in
      let x = h.edges e (Contains-from_Has (shell_edges a) e used) in
      occurs (length t.edges) (shell_edges b) (r.edge e) (slice_get_within t.edges (r.edge e) x.1 x.3) (edge_there e used)

  vertex_occurs : (v : ℕ) → Has c.vertices v → Has d.vertices (r.vertex v)
  unfolding shell_rows
  vertex_occurs v m =
      let used = vertex_used_here v m in
      occurs (length t.vertices) (shell_vertices t b) (r.vertex v) (h.vertices v (Contains-from_Has (shell_vertices s a) v used)).1 (vertex_there v used)

  -- ---- JOIN

  vertex_of_edge : (u : LoopUse) (v : ℕ) → Has (shell_uses a) u → Has (vertices_used s u) v → Has (shell_vertices s a) v
  vertex_of_edge u v m k = has_flat_map (vertices_used s) (shell_uses a) u v m k

  module _ (u : LoopUse) (m : Has (shell_uses a) u) where
    ends_in : (x : Edge) (along : Bool) → Has (ends_of (Some x)) (begin_of (Some x) along)
    ends_in x true = inl refl
    ends_in x false = inr (inl refl)

    begin_as : (x y : Edge) (along : Bool) → IsRenumberedEdge r x y → begin_of (Some y) along ≡ r.vertex (begin_of (Some x) along)
    begin_as x y true k = k.from
    begin_as x y false k = k.to

    edge_of : (edge : EdgeId) (along : Bool) → Has (shell_uses a) (EdgeUse edge along)
        → (x y : Edge) × (slice_get s.edges edge.0 ≡ Some x) × (slice_get t.edges (r.edge edge.0) ≡ Some y) × IsRenumberedEdge r x y
    edge_of edge along m = h.edges edge.0 (Contains-from_Has (shell_edges a) edge.0 (has_flat_map edge_used (shell_uses a) (EdgeUse edge along) edge.0 m
        (inl refl)))

  edge_begins : (edge : EdgeId) (along way : Bool) → Has (shell_uses a) (EdgeUse edge along)
      → Has (shell_vertices s a) (begin_of (slice_get s.edges edge.0) way)
      × (begin_of (slice_get t.edges (r.edge edge.0)) way ≡ r.vertex (begin_of (slice_get s.edges edge.0) way))
  edge_begins edge along way m =
      let x = edge_of (EdgeUse edge along) m edge along m in (
        vertex_of_edge (EdgeUse edge along) (begin_of (slice_get s.edges edge.0) way) m
            (subst (λ o. Has (ends_of o) (begin_of o way)) (sym x.2) (ends_in (EdgeUse edge along) m x.0 way)),
        ap (λ o. begin_of o way) x.3 ∙ (begin_as (EdgeUse edge along) m x.0 x.1 way x.4 ∙ ap (λ o. r.vertex (begin_of o way)) (sym x.2)),
      )

  start_as : (u : LoopUse) → Has (shell_uses a) u → Has (shell_vertices s a) (start_of s u) × (start_of t (renumbered_use r u) ≡ r.vertex (start_of s u))
  start_as (VertexUse vertex) m = (vertex_of_edge (VertexUse vertex) vertex.0 m (inl refl), refl)
  start_as (EdgeUse edge along) m = edge_begins edge along along m

  end_as : (u : LoopUse) → Has (shell_uses a) u → Has (shell_vertices s a) (end_of s u) × (end_of t (renumbered_use r u) ≡ r.vertex (end_of s u))
  end_as (VertexUse vertex) m = (vertex_of_edge (VertexUse vertex) vertex.0 m (inl refl), refl)
  end_as (EdgeUse edge along) m = edge_begins edge along (not along) m

  each_as : (f g : LoopUse → ℕ) → ((u : LoopUse) → Has (shell_uses a) u → Has (shell_vertices s a) (f u) × (g (renumbered_use r u) ≡ r.vertex (f u)))
      → (us : List LoopUse) → ((u : LoopUse) → Has us u → Has (shell_uses a) u) → map g (map (renumbered_use r) us) ≡ map r.vertex (map f us)
  each_as f g each [] m = refl
  each_as f g each (u ∷ us) m = λ i. (each u (m u (inl refl))).1 i ∷ each_as f g each us (λ w n. m w (inr n)) i

  still_joined : (p q : PlacedLoop) → Has (placed_loops a) p → IsRenumberedPlaced r p q → IsJoined t q.loop → IsJoined s p.loop
  still_joined p q here k joined =
      let in_shell : (u : LoopUse) → Has p.loop.uses u → Has (shell_uses a) u = λ u m. has_flat_map (λ (x : PlacedLoop). x.loop.uses)
      (placed_loops a) p u here m in
      let ends = each_as (end_of s) (end_of t) end_as p.loop.uses in_shell in
      let starts = each_as (start_of s) (start_of t) start_as p.loop.uses in_shell in
      apart_lists r.vertex (Has (shell_vertices s a)) one_vertex (map (end_of s) p.loop.uses) (next_of_each (map (start_of s) p.loop.uses))
      (λ v m. let u = has_map (end_of s) p.loop.uses v m in subst (Has (shell_vertices s a)) u.2 (end_as u.0 (in_shell u.0 u.1)).0)
      (λ v m. let u = has_map (start_of s) p.loop.uses v (next_in (map (start_of s) p.loop.uses) v m) in
      subst (Has (shell_vertices s a)) u.2 (start_as u.0 (in_shell u.0 u.1)).0)
      (sym ends ∙ (ap (map (end_of t)) (sym k.uses) ∙ (joined ∙ (ap (λ us. next_of_each (map (start_of t) us)) k.uses
      ∙ (ap next_of_each starts ∙ map_next r.vertex (map (start_of s) p.loop.uses))))))

  all_joined : (ps qs : List PlacedLoop) → ((p : PlacedLoop) → Has ps p → Has (placed_loops a) p) → AllZip (IsRenumberedPlaced r) ps qs
      → AllByRecursion (λ (q : PlacedLoop). IsJoined t q.loop) qs → AllByRecursion (λ (p : PlacedLoop). IsJoined s p.loop) ps
  all_joined [] [] m z all = tt
  all_joined [] (q ∷ qs) m z all = tt
  all_joined (p ∷ ps) [] m z all = absurd z
  all_joined (p ∷ ps) (q ∷ qs) m z all =
      (still_joined p q (m p (inl refl)) z.0 all.0, all_joined ps qs (λ x n. m x (inr n)) z.1 all.1)

  -- ---- PAIR

  count_as : (e : ℕ) (way : Row → Bool) → ((x : Row) → way (renumbered_row r x) ≡ way x) → Has (shell_edges a) e
      → count_by (λ (x : Row). (x.edge.0 == r.edge e) && way x) d.rows ≡ count_by (λ (x : Row). (x.edge.0 == e) && way x) c.rows
  count_as e way same_way used =
      ap (count_by (λ (x : Row). (x.edge.0 == r.edge e) && way x)) rows.rows
      ∙ (count_by-total (λ (x : Row). (x.edge.0 == r.edge e) && way x) (map (renumbered_row r) c.rows)
      ∙ (total-map (renumbered_row r) (λ (x : Row). cond ((x.edge.0 == r.edge e) && way x) 1 0) c.rows
      ∙ (total_alike (λ (x : Row). cond ((r.edge x.edge.0 == r.edge e) && way (renumbered_row r x)) 1 0)
      (λ (x : Row). cond ((x.edge.0 == e) && way x) 1 0) c.rows
      (λ x m. ap (λ k. cond (k && way (renumbered_row r x)) 1 0)
      (same_test x.edge.0 e (r.edge x.edge.0) (r.edge e) (λ z. ap r.edge z) (λ z. one_edge x.edge.0 e (row_edge x m) used z))
      ∙ ap (λ k. cond ((x.edge.0 == e) && k) 1 0) (same_way x))
      ∙ sym (count_by-total (λ (x : Row). (x.edge.0 == e) && way x) c.rows))))

  still_paired : (e : ℕ) → Has c.edges e → IsPaired d (r.edge e) → IsPaired c e
  still_paired e m p = (
    sym (count_as e (λ (x : Row). x.along) (λ x. refl) (edge_used_here e m)) ∙ p.0,
    sym (count_as e (λ (x : Row). not x.along) (λ x. refl) (edge_used_here e m)) ∙ p.1,
  )

  -- ---- REACH

  row_here : (i : ℕ) (row : Row) → slice_get d.rows i ≡ Some row → (x : Row) × (slice_get c.rows i ≡ Some x) × (row ≡ renumbered_row r x)
  row_here i row at = get_unmapped (renumbered_row r) c.rows d.rows rows.rows i row at

  mates_here : (i m : ℕ) → AreMates d i m → AreMates c i m
  mates_here i m k =
      let x = row_here i k.row k.at_r in
      let y = row_here m k.mate k.at_m in
      let same : r.edge (let z : Row = x.0 in z.edge.0) ≡ r.edge (let z : Row = y.0 in z.edge.0) =
      sym (ap (λ (z : Row). z.edge.0) x.2) ∙ (ap (λ (e : EdgeId). e.0) k.one_edge ∙ ap (λ (z : Row). z.edge.0) y.2) in
      record {
        row = x.0;
        mate = y.0;
        at_r = x.1;
        at_m = y.1;
        one_edge = edge_id _ _ (one_edge _ _ (row_edge x.0 (has_get c.rows i x.0 x.1)) (row_edge y.0 (has_get c.rows m y.0 y.1)) same);
        opposite = sym (ap (λ (z : Row). z.along) x.2) ∙ (k.opposite ∙ ap (λ (z : Row). not z.along) y.2);
      }

  face_here : (face i : ℕ) → OnFace d face i → OnFace c face i
  face_here face i (row, at, on) = let x = row_here i row at in (x.0, x.1, sym (ap (λ (z : Row). z.at.face.0) x.2) ∙ on)

  steps_here : (n x y : ℕ) → Steps (AreNeighbours d) n x y → Steps (AreNeighbours c) n x y
  steps_here zero x y e = e
  steps_here (suc n) x y (z, (i, m, mates, on_x, on_z), rest) =
      (z, (i, m, mates_here i m mates, face_here x i on_x, face_here z m on_z), steps_here n z y rest)

  still_reached : (face : ℕ) → IsReached d face → IsReached c face
  still_reached face (n, steps) = (n, steps_here n 0 face steps)

  -- ---- LINK

  starts_there : (v i : ℕ) → StartsAt c v i → StartsAt d (r.vertex v) i
  starts_there v i (row, at, starts) = (renumbered_row r row, get_mapped (renumbered_row r) c.rows d.rows rows.rows i row at, ap r.vertex starts)

  starts_here : (v i : ℕ) → Has c.vertices v → StartsAt d (r.vertex v) i → StartsAt c v i
  starts_here v i m (row, at, starts) =
      let x = row_here i row at in
      (x.0, x.1, one_vertex _ v (row_start x.0 (has_get c.rows i x.0 x.1)) (vertex_used_here v m) (sym (ap (λ (z : Row). z.from.0) x.2) ∙ starts))

  turns_here : (n x y : ℕ) → Steps (Turns d) n x y → Steps (Turns c) n x y
  turns_here zero x y e = e
  turns_here (suc n) x y (z, (m, mates, follows), rest) =
      (z, (m, mates_here x m mates, subst (λ ns. slice_get ns m ≡ Some z) rows.follows follows), turns_here n z y rest)

  points_as : (v : ℕ) → Has c.vertices v → point_count d (r.vertex v) ≡ point_count c v
  points_as v m =
      ap (count_by (λ (p : LoopAt × ℕ). p.1 == r.vertex v)) rows.points
      ∙ (count_by-total (λ (p : LoopAt × ℕ). p.1 == r.vertex v) (map (renumbered_point r) c.points)
      ∙ (total-map (renumbered_point r) (λ (p : LoopAt × ℕ). cond (p.1 == r.vertex v) 1 0) c.points
      ∙ (total_alike (λ (p : LoopAt × ℕ). cond (r.vertex p.1 == r.vertex v) 1 0) (λ (p : LoopAt × ℕ). cond (p.1 == v) 1 0) c.points
      (λ p n. ap (λ k. cond k 1 0) (same_test p.1 v (r.vertex p.1) (r.vertex v) (λ z. ap r.vertex z)
      (λ z. one_vertex p.1 v (point_vertex p n) (vertex_used_here v m) z)))
      ∙ sym (count_by-total (λ (p : LoopAt × ℕ). p.1 == v) c.points))))

  still_linked : (v : ℕ) → Has c.vertices v → IsLinked d (r.vertex v) → IsLinked c v
  still_linked v m (inl k) = inl (record {
    some = (k.some.0, starts_here v k.some.0 m k.some.1);
    one_cycle = λ x y at_x at_y. let chain = k.one_cycle x y (starts_there v x at_x) (starts_there v y at_y) in (chain.0, turns_here chain.0 x y chain.1);
    no_point = sym (points_as v m) ∙ k.no_point;
  })
  still_linked v m (inr k) = inr (record {
    no_row = λ x at. k.no_row x (starts_there v x at);
    one_point = sym (points_as v m) ∙ k.one_point;
  })

  as_many_faces : (fs gs : List FaceUse) → AllZip (IsRenumberedFace r) fs gs → length gs ≡ length fs
  as_many_faces [] [] z = refl
  as_many_faces [] (g ∷ gs) z = absurd z
  as_many_faces (f ∷ fs) [] z = absurd z
  as_many_faces (f ∷ fs) (g ∷ gs) z = ap suc (as_many_faces fs gs z.1)

  still_closed : (k : ℕ) → IsClosedShell t k b → IsClosedShell s 0 a
  still_closed k closed = record {
    joined = all_joined (placed_loops a) (placed_loops b) (λ p m. m) (placed r a b h.shell) closed.joined;
    paired = All-from (IsPaired c) c.edges (λ e m. still_paired e m (All-at (IsPaired d) d.edges closed.paired (r.edge e) (edge_occurs e m)));
    reached = All-from (IsReached c) (numbers_from 0 (length a.faces)) (λ face m. still_reached face (All-at (IsReached d) (numbers_from 0 (length b.faces))
        closed.reached face (subst (λ n. Has (numbers_from 0 n) face) (sym (as_many_faces a.faces b.faces h.shell.faces)) m)));
    linked = All-from (IsLinked c) c.vertices (λ v m. still_linked v m (All-at (IsLinked d) d.vertices closed.linked (r.vertex v) (vertex_occurs v m)));
    apart = All-from (IsApart s 0) c.vertices (λ v m before. Has-from_Contains [] v before);
  }

pub renumbered_shell : RenumberedStaysClosed
renumbered_shell r s t k a b h closed = still_closed r s t a b h k closed
