-- The rows of one shell in two solids: the same rows, with other numbers of edges and vertices.
use Rattle.std.specs.Prelude.{◌≡◌, ℕ, ◌+◌, Bool, true, false, List, [], ◌∷◌, ◌++◌, length, map, flat_map, filter_map, Some}
use Rattle.std.specs.Prelude.{option_map, slice_get, if◌then◌else◌}
use Rattle.std.specs.List.{AllZip, cons_option, enumerate_from}
use Rattle.std.proofs.Common.{refl, sym, ◌∙◌, ap, inl, inr}
use Rattle.std.proofs.lemmas.List.{map-append, length-map}
use Rattle.solid_data.specs.Ring.{next_of_each, previous_of_each, numbers_from}
use Rattle.solid_data.specs.SolidData.{SolidData, PlacedLoop, placed_in_face, placed_loops, shell_uses, shell_edges, edge_used}
use Rattle.solid_data.specs.SolidData.{same_flag}
use Rattle.solid_data.specs.declared.solid.Edge.{Edge}
use Rattle.solid_data.specs.declared.solid.EdgeId.{EdgeId}
use Rattle.solid_data.specs.declared.solid.VertexId.{VertexId}
use Rattle.solid_data.specs.declared.solid.FaceUse.{FaceUse}
use Rattle.solid_data.specs.declared.solid.Loop.{Loop}
use Rattle.solid_data.specs.declared.solid.LoopAt.{LoopAt}
use Rattle.solid_data.specs.declared.solid.LoopUse.{LoopUse}
use Rattle.solid_data.specs.declared.solid.LoopUse.TheVariants.{EdgeUse, VertexUse}
use Rattle.solid_data.specs.declared.solid.Shell.{Shell}
use Rattle.solid_data.proofs.Members.{Has, Contains-from_Has, has_flat_map}
use Rattle.edge_uses.specs.declared.row.Row.{Row}
use Rattle.edge_uses.specs.ShellRows.{ShellRows, row_of_edge, row_of, loop_rows, follows_from, point_of, shell_rows}
use Rattle.shell_laws.specs.Renumbered.{Renumbering, renumbered_use, IsRenumberedLoop, IsRenumberedFace, IsRenumberedEdge, IsRenumberedShell, IsRenumbered}
use Rattle.shell_laws.proofs.TurnedRows.{placed_at, map_cons}

abbrev pub vertex_as : Renumbering → VertexId → VertexId
vertex_as r v = record { 0 = r.vertex v.0 }

abbrev pub renumbered_row : Renumbering → Row → Row
renumbered_row r x = record { at = x.at; edge = record { 0 = r.edge x.edge.0 }; along = x.along; from = vertex_as r x.from; to = vertex_as r x.to }

abbrev pub renumbered_point : Renumbering → LoopAt × ℕ → LoopAt × ℕ
renumbered_point r p = (p.0, r.vertex p.1)

-- the same loop at the same place
pub record IsRenumberedPlaced (r : Renumbering) (p q : PlacedLoop) : Type 0 where
  pub at : p.at ≡ q.at
  pub forwards : p.forwards ≡ q.forwards
  pub uses : q.loop.uses ≡ map (renumbered_use r) p.loop.uses

-- The rows of d are those of c, with these numbers.
pub record AreRenumbered (r : Renumbering) (c d : ShellRows) : Type 0 where
  pub rows : d.rows ≡ map (renumbered_row r) c.rows
  pub follows : d.follows ≡ c.follows
  pub points : d.points ≡ map (renumbered_point r) c.points

-- ---- loops at their places

module _ (r : Renumbering) where
  in_face : (a b : Bool) → a ≡ b → (n : ℕ) (f g : FaceUse) → IsRenumberedFace r f g
      → AllZip (IsRenumberedPlaced r) (placed_in_face a (n, f)) (placed_in_face b (n, g))
  in_face a b same n f g h = each 0 f.loops g.loops h.loops
    where
      each : (k : ℕ) (ls ms : List Loop) → AllZip (IsRenumberedLoop r) ls ms → AllZip (IsRenumberedPlaced r)
          (map (placed_at n (same_flag f.flag a)) (enumerate_from k ls)) (map (placed_at n (same_flag g.flag b)) (enumerate_from k ms))
      each k [] [] z = tt
      each k [] (m ∷ ms) z = absurd z
      each k (l ∷ ls) [] z = absurd z
      each k (l ∷ ls) (m ∷ ms) z =
          (record { at = refl; forwards = ap (λ c. same_flag c a) h.flag ∙ ap (same_flag g.flag) same; uses = z.0 }, each (k + 1) ls ms z.1)

  zip_append : {A B : Type 0} (Q : A → B → Type 0) (xs us : List A) (ys vs : List B) → AllZip Q xs ys → AllZip Q us vs → AllZip Q (xs ++ us) (ys ++ vs)
  zip_append Q [] us [] vs z w = w
  zip_append Q [] us (y ∷ ys) vs z w = absurd z
  zip_append Q (x ∷ xs) us [] vs z w = absurd z
  zip_append Q (x ∷ xs) us (y ∷ ys) vs z w = (z.0, zip_append Q xs us ys vs z.1 w)

  pub placed : (a b : Shell) → IsRenumberedShell r a b → AllZip (IsRenumberedPlaced r) (placed_loops a) (placed_loops b)
  placed a b h = each 0 a.faces b.faces h.faces
    where
      each : (k : ℕ) (fs gs : List FaceUse) → AllZip (IsRenumberedFace r) fs gs → AllZip (IsRenumberedPlaced r)
          (flat_map (placed_in_face a.flag) (enumerate_from k fs)) (flat_map (placed_in_face b.flag) (enumerate_from k gs))
      each k [] [] z = tt
      each k [] (g ∷ gs) z = absurd z
      each k (f ∷ fs) [] z = absurd z
      each k (f ∷ fs) (g ∷ gs) z =
          zip_append (IsRenumberedPlaced r) (placed_in_face a.flag (k, f)) (flat_map (placed_in_face a.flag) (enumerate_from (k + 1) fs))
          (placed_in_face b.flag (k, g)) (flat_map (placed_in_face b.flag) (enumerate_from (k + 1) gs))
          (in_face a.flag b.flag h.flag k f g z.0) (each (k + 1) fs gs z.1)

  -- what related loops give alike, under other numbers, their lists give
  zip_map : {A B C : Type 0} (Q : A → A → Type 0) (f : A → List B) (g : A → List C) (h : B → C) (xs ys : List A) → AllZip Q xs ys
      → ((x y : A) → Has xs x → Q x y → g y ≡ map h (f x)) → flat_map g ys ≡ map h (flat_map f xs)
  zip_map Q f g h [] [] z e = refl
  zip_map Q f g h [] (y ∷ ys) z e = absurd z
  zip_map Q f g h (x ∷ xs) [] z e = absurd z
  zip_map Q f g h (x ∷ xs) (y ∷ ys) z e =
      ap (λ zs. zs ++ flat_map g ys) (e x y (inl refl) z.0)
      ∙ (ap (λ zs. map h (f x) ++ zs) (zip_map Q f g h xs ys z.1 (λ u v m. e u v (inr m))) ∙ sym (map-append h (f x) (flat_map f xs)))

  pub uses_as : (a b : Shell) → IsRenumberedShell r a b → shell_uses b ≡ map (renumbered_use r) (shell_uses a)
  uses_as a b h = zip_map (IsRenumberedPlaced r) (λ (p : PlacedLoop). p.loop.uses) (λ (p : PlacedLoop). p.loop.uses) (renumbered_use r)
      (placed_loops a) (placed_loops b) (placed a b h) (λ p q m k. k.uses)

  -- ---- their rows

  module _ (s t : SolidData) (a b : Shell) (h : IsRenumbered r s t a b) where
    edge_as : (e : ℕ) → Has (shell_edges a) e → (x y : Edge) × (slice_get s.edges e ≡ Some x) × (slice_get t.edges (r.edge e) ≡ Some y) × IsRenumberedEdge r x y
    edge_as e m = h.edges e (Contains-from_Has (shell_edges a) e m)

    edge_row : (x y : LoopAt) → x ≡ y → (edge : EdgeId) (along : Bool) (e g : Edge) → IsRenumberedEdge r e g
        → row_of_edge y (record { 0 = r.edge edge.0 }) along (Some g) ≡ option_map (renumbered_row r) (row_of_edge x edge along (Some e))
    edge_row x y same edge true e g k = λ i. Some (record {
      at = sym same i;
      edge = record { 0 = r.edge edge.0 };
      along = true;
      from = record { 0 = k.from i };
      to = record { 0 = k.to i };
    })
    edge_row x y same edge false e g k = λ i. Some (record {
      at = sym same i;
      edge = record { 0 = r.edge edge.0 };
      along = false;
      from = record { 0 = k.to i };
      to = record { 0 = k.from i };
    })

    use_row : (p q : PlacedLoop) → IsRenumberedPlaced r p q → (u : LoopUse) → Has (shell_uses a) u
        → row_of t q (renumbered_use r u) ≡ option_map (renumbered_row r) (row_of s p u)
    use_row p q k (VertexUse vertex) m = refl
    use_row p q k (EdgeUse edge along) m =
        let x = edge_as edge.0 (has_flat_map edge_used (shell_uses a) (EdgeUse edge along) edge.0 m (inl refl)) in
        ap (λ c. row_of_edge q.at (record { 0 = r.edge edge.0 }) (same_flag along c) (slice_get t.edges (r.edge edge.0))) (sym k.forwards)
        ∙ (ap (row_of_edge q.at (record { 0 = r.edge edge.0 }) (same_flag along p.forwards)) x.3
        ∙ (edge_row p.at q.at k.at edge (same_flag along p.forwards) x.0 x.1 x.4
        ∙ ap (λ o. option_map (renumbered_row r) (row_of_edge p.at edge (same_flag along p.forwards) o)) (sym x.2)))

    loop_rows_as : (p q : PlacedLoop) → Has (placed_loops a) p → IsRenumberedPlaced r p q → loop_rows t q ≡ map (renumbered_row r) (loop_rows s p)
    loop_rows_as p q here k =
        ap (filter_map (row_of t q)) k.uses ∙ each p.loop.uses (λ u m. has_flat_map (λ (x : PlacedLoop). x.loop.uses) (placed_loops a) p u here m)
      where
        each : (us : List LoopUse) → ((u : LoopUse) → Has us u → Has (shell_uses a) u)
            → filter_map (row_of t q) (map (renumbered_use r) us) ≡ map (renumbered_row r) (filter_map (row_of s p) us)
        each [] m = refl
        each (u ∷ us) m =
            ap (λ o. cons_option o (filter_map (row_of t q) (map (renumbered_use r) us))) (use_row p q k u (m u (inl refl)))
            ∙ (ap (cons_option (option_map (renumbered_row r) (row_of s p u))) (each us (λ v n. m v (inr n)))
            ∙ map_cons (renumbered_row r) (row_of s p u) (filter_map (row_of s p) us))

    follows_same : (base : ℕ) (ps qs : List PlacedLoop) → ((p : PlacedLoop) → Has ps p → Has (placed_loops a) p) → AllZip (IsRenumberedPlaced r) ps qs
        → follows_from t base qs ≡ follows_from s base ps
    follows_same base [] [] m z = refl
    follows_same base [] (q ∷ qs) m z = absurd z
    follows_same base (p ∷ ps) [] m z = absurd z
    follows_same base (p ∷ ps) (q ∷ qs) m z =
        ap (λ n. (if q.forwards then next_of_each (numbers_from base n) else previous_of_each (numbers_from base n)) ++ follows_from t (base + n) qs) as_many
        ∙ (ap (λ c. (if c then next_of_each (numbers_from base n) else previous_of_each (numbers_from base n)) ++ follows_from t (base + n) qs)
        (sym z.0.forwards)
        ∙ ap (λ ns. (if p.forwards then next_of_each (numbers_from base n) else previous_of_each (numbers_from base n)) ++ ns)
        (follows_same (base + n) ps qs (λ x k. m x (inr k)) z.1))
      where
        n : ℕ
        n = length (loop_rows s p)

        as_many : length (loop_rows t q) ≡ n
        as_many = ap length (loop_rows_as p q (m p (inl refl)) z.0) ∙ length-map (loop_rows s p) (renumbered_row r)

    -- ---- loops without an edge

    edges_as : (rows : List Row) → map (λ (x : Row). x.edge.0) (map (renumbered_row r) rows) ≡ map r.edge (map (λ (x : Row). x.edge.0) rows)
    edges_as [] = refl
    edges_as (x ∷ rows) = ap (λ es. r.edge x.edge.0 ∷ es) (edges_as rows)

    point_as : (p q : PlacedLoop) → p.at ≡ q.at → (us : List LoopUse) (es : List ℕ)
        → point_of q (map (renumbered_use r) us) (map r.edge es) ≡ map (renumbered_point r) (point_of p us es)
    point_as p q e [] es = refl
    point_as p q e (EdgeUse edge along ∷ us) es = refl
    point_as p q e (VertexUse vertex ∷ us) [] = ap (λ (x : LoopAt). (x, r.vertex vertex.0) ∷ []) (sym e)
    point_as p q e (VertexUse vertex ∷ us) (x ∷ es) = refl

    points_as : (p q : PlacedLoop) → Has (placed_loops a) p → IsRenumberedPlaced r p q
        → point_of q q.loop.uses (map (λ (x : Row). x.edge.0) (loop_rows t q))
        ≡ map (renumbered_point r) (point_of p p.loop.uses (map (λ (x : Row). x.edge.0) (loop_rows s p)))
    points_as p q here k =
        ap (λ rs. point_of q q.loop.uses (map (λ (x : Row). x.edge.0) rs)) (loop_rows_as p q here k)
        ∙ (ap (point_of q q.loop.uses) (edges_as (loop_rows s p))
        ∙ (ap (λ us. point_of q us (map r.edge (map (λ (x : Row). x.edge.0) (loop_rows s p)))) k.uses
        ∙ point_as p q k.at p.loop.uses (map (λ (x : Row). x.edge.0) (loop_rows s p))))

    pub shell_rows_as : AreRenumbered r (shell_rows s a) (shell_rows t b)
    unfolding shell_rows
    shell_rows_as = record {
      rows = zip_map (IsRenumberedPlaced r) (loop_rows s) (loop_rows t) (renumbered_row r) (placed_loops a) (placed_loops b) (placed a b h.shell) loop_rows_as;
      follows = follows_same 0 (placed_loops a) (placed_loops b) (λ p m. m) (placed a b h.shell);
      points = zip_map (IsRenumberedPlaced r) (λ (p : PlacedLoop). point_of p p.loop.uses (map (λ (x : Row). x.edge.0) (loop_rows s p)))
          (λ (p : PlacedLoop). point_of p p.loop.uses (map (λ (x : Row). x.edge.0) (loop_rows t p))) (renumbered_point r)
          (placed_loops a) (placed_loops b) (placed a b h.shell) points_as;
    }
