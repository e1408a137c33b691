-- The edges, vertices and faces of a shell's rows are among those that occur in it.
use Rattle.std.specs.Prelude.{◌≡◌, ℕ, ◌+◌, ◌<◌, Bool, true, false, List, [], ◌∷◌, length, map, flat_map, Option, Some, None, slice_get}
use Rattle.std.specs.List.{AllByRecursion, enumerate_from}
use Rattle.std.proofs.Common.{refl, arith, inl, inr}
use Rattle.std.proofs.lemmas.Option.{slice_get_within}
use Rattle.solid_data.specs.Ring.{numbers_from}
use Rattle.solid_data.specs.SolidData.{SolidData, PlacedLoop, placed_in_face, placed_loops, shell_uses, shell_edges, shell_vertices, edge_used, ends_of}
use Rattle.solid_data.specs.SolidData.{vertices_used, same_flag, occurring}
use Rattle.solid_data.specs.declared.solid.Edge.{Edge}
use Rattle.solid_data.specs.declared.solid.EdgeId.{EdgeId}
use Rattle.solid_data.specs.declared.solid.FaceUse.{FaceUse}
use Rattle.solid_data.specs.declared.solid.LoopAt.{LoopAt}
use Rattle.solid_data.specs.declared.solid.LoopUse.{LoopUse}
use Rattle.solid_data.specs.declared.solid.LoopUse.TheVariants.{EdgeUse, VertexUse}
use Rattle.solid_data.specs.declared.solid.Shell.{Shell}
use Rattle.edge_uses.specs.declared.row.Row.{Row}
use Rattle.edge_uses.specs.ShellRows.{row_of_edge, row_of, loop_rows, point_of, shell_rows}
use Rattle.solid_data.proofs.Members.{Has, has_flat_map, all_flat_map, OptionAll, all_filter_map, all_has, all_map, Rises}
use Rattle.solid_data.proofs.Occurring.{occurs, occurring_rises, numbers_rise, VerticesKnown}

-- what holds of the row of each use holds of each row
rows_all : (P : Row → Type 0) (s : SolidData) (shell : Shell)
    → ((p : PlacedLoop) (u : LoopUse) → Has (placed_loops shell) p → Has p.loop.uses u → OptionAll P (row_of s p u))
    → AllByRecursion P (flat_map (loop_rows s) (placed_loops shell))
rows_all P s shell h = all_flat_map P (loop_rows s) (placed_loops shell) (λ p m. all_filter_map P (row_of s p) p.loop.uses (λ u k. h p u m k))

shell_has : (shell : Shell) (p : PlacedLoop) (u : LoopUse) → Has (placed_loops shell) p → Has p.loop.uses u → Has (shell_uses shell) u
shell_has shell p u m k = has_flat_map (λ (q : PlacedLoop). q.loop.uses) (placed_loops shell) p u m k

abbrev EdgeKnown : SolidData → Shell → Row → Type 0
EdgeKnown s shell r = Has (shell_rows s shell).edges r.edge.0

pub edges_known : (s : SolidData) (shell : Shell) → AllByRecursion (λ (r : Row). Has (shell_rows s shell).edges r.edge.0) (shell_rows s shell).rows
unfolding shell_rows
edges_known s shell = rows_all (λ (r : Row). Has (occurring (numbers_from 0 (length s.edges)) (shell_edges shell)) r.edge.0) s shell use_known
  where
    of_edge : (p : PlacedLoop) (edge : EdgeId) (along : Bool) (o : Option Edge) → slice_get s.edges edge.0 ≡ o → Has (shell_edges shell) edge.0
        → OptionAll (λ (r : Row). Has (occurring (numbers_from 0 (length s.edges)) (shell_edges shell)) r.edge.0) (row_of_edge p.at edge along o)
    of_edge p edge along None e m = tt
    of_edge p edge true (Some x) e m = occurs (length s.edges) (shell_edges shell) edge.0 (slice_get_within s.edges edge.0 x e) m
    of_edge p edge false (Some x) e m = occurs (length s.edges) (shell_edges shell) edge.0 (slice_get_within s.edges edge.0 x e) m

    use_known : (p : PlacedLoop) (u : LoopUse) → Has (placed_loops shell) p → Has p.loop.uses u
        → OptionAll (λ (r : Row). Has (occurring (numbers_from 0 (length s.edges)) (shell_edges shell)) r.edge.0) (row_of s p u)
    use_known p (EdgeUse edge along) m k =
        of_edge p edge (same_flag along p.forwards) (slice_get s.edges edge.0) refl
        (has_flat_map edge_used (shell_uses shell) (EdgeUse edge along) edge.0 (shell_has shell p (EdgeUse edge along) m k) (inl refl))
    use_known p (VertexUse vertex) m k = tt

pub starts_known : (s : SolidData) (shell : Shell) → VerticesKnown s shell
    → AllByRecursion (λ (r : Row). Has (shell_rows s shell).vertices r.from.0) (shell_rows s shell).rows
unfolding shell_rows
starts_known s shell known = rows_all (λ (r : Row). Has (occurring (numbers_from 0 (length s.vertices)) (shell_vertices s shell)) r.from.0) s shell use_known
  where
    listed : (v : ℕ) → Has (shell_vertices s shell) v → Has (occurring (numbers_from 0 (length s.vertices)) (shell_vertices s shell)) v
    listed v m = occurs (length s.vertices) (shell_vertices s shell) v (known v m) m

    of_edge : (p : PlacedLoop) (edge : EdgeId) (along : Bool) (o : Option Edge) → ((v : ℕ) → Has (ends_of o) v → Has (shell_vertices s shell) v)
        → OptionAll (λ (r : Row). Has (occurring (numbers_from 0 (length s.vertices)) (shell_vertices s shell)) r.from.0) (row_of_edge p.at edge along o)
    of_edge p edge along None m = tt
    of_edge p edge true (Some x) m = listed x.from.0 (m x.from.0 (inl refl))
    of_edge p edge false (Some x) m = listed x.to.0 (m x.to.0 (inr (inl refl)))

    use_known : (p : PlacedLoop) (u : LoopUse) → Has (placed_loops shell) p → Has p.loop.uses u
        → OptionAll (λ (r : Row). Has (occurring (numbers_from 0 (length s.vertices)) (shell_vertices s shell)) r.from.0) (row_of s p u)
    use_known p (EdgeUse edge along) m k =
        of_edge p edge (same_flag along p.forwards) (slice_get s.edges edge.0)
        (λ v n. has_flat_map (vertices_used s) (shell_uses shell) (EdgeUse edge along) v (shell_has shell p (EdgeUse edge along) m k) n)
    use_known p (VertexUse vertex) m k = tt

pub stops_known : (s : SolidData) (shell : Shell) → VerticesKnown s shell
    → AllByRecursion (λ (r : Row). Has (shell_rows s shell).vertices r.to.0) (shell_rows s shell).rows
unfolding shell_rows
stops_known s shell known = rows_all (λ (r : Row). Has (occurring (numbers_from 0 (length s.vertices)) (shell_vertices s shell)) r.to.0) s shell use_known
  where
    listed : (v : ℕ) → Has (shell_vertices s shell) v → Has (occurring (numbers_from 0 (length s.vertices)) (shell_vertices s shell)) v
    listed v m = occurs (length s.vertices) (shell_vertices s shell) v (known v m) m

    of_edge : (p : PlacedLoop) (edge : EdgeId) (along : Bool) (o : Option Edge) → ((v : ℕ) → Has (ends_of o) v → Has (shell_vertices s shell) v)
        → OptionAll (λ (r : Row). Has (occurring (numbers_from 0 (length s.vertices)) (shell_vertices s shell)) r.to.0) (row_of_edge p.at edge along o)
    of_edge p edge along None m = tt
    of_edge p edge true (Some x) m = listed x.to.0 (m x.to.0 (inr (inl refl)))
    of_edge p edge false (Some x) m = listed x.from.0 (m x.from.0 (inl refl))

    use_known : (p : PlacedLoop) (u : LoopUse) → Has (placed_loops shell) p → Has p.loop.uses u
        → OptionAll (λ (r : Row). Has (occurring (numbers_from 0 (length s.vertices)) (shell_vertices s shell)) r.to.0) (row_of s p u)
    use_known p (EdgeUse edge along) m k =
        of_edge p edge (same_flag along p.forwards) (slice_get s.edges edge.0)
        (λ v n. has_flat_map (vertices_used s) (shell_uses shell) (EdgeUse edge along) v (shell_has shell p (EdgeUse edge along) m k) n)
    use_known p (VertexUse vertex) m k = tt

pub points_known : (s : SolidData) (shell : Shell) → VerticesKnown s shell
    → AllByRecursion (λ (p : LoopAt × ℕ). Has (shell_rows s shell).vertices p.1) (shell_rows s shell).points
unfolding shell_rows
points_known s shell known =
    all_flat_map (λ (p : LoopAt × ℕ). Has (occurring (numbers_from 0 (length s.vertices)) (shell_vertices s shell)) p.1)
    (λ (p : PlacedLoop). point_of p p.loop.uses (map (λ (r : Row). r.edge.0) (loop_rows s p))) (placed_loops shell)
    (λ p m. of_loop p p.loop.uses (map (λ (r : Row). r.edge.0) (loop_rows s p)) (λ u k. shell_has shell p u m k))
  where
    of_loop : (p : PlacedLoop) (us : List LoopUse) (es : List ℕ) → ((u : LoopUse) → Has us u → Has (shell_uses shell) u)
        → AllByRecursion (λ (q : LoopAt × ℕ). Has (occurring (numbers_from 0 (length s.vertices)) (shell_vertices s shell)) q.1) (point_of p us es)
    of_loop p [] [] m = tt
    of_loop p [] (e ∷ es) m = tt
    of_loop p (EdgeUse edge along ∷ us) [] m = tt
    of_loop p (EdgeUse edge along ∷ us) (e ∷ es) m = tt
    of_loop p (VertexUse vertex ∷ us) (e ∷ es) m = tt
    of_loop p (VertexUse vertex ∷ us) [] m =
        let used : Has (shell_vertices s shell) vertex.0 = has_flat_map (vertices_used s) (shell_uses shell) (VertexUse vertex) vertex.0
        (m (VertexUse vertex) (inl refl)) (inl refl) in
        (occurs (length s.vertices) (shell_vertices s shell) vertex.0 (known vertex.0 used) used, tt)

-- each loop is placed on a face of the shell
enumerated_below : (base : ℕ) (xs : List FaceUse) → AllByRecursion (λ (f : ℕ × FaceUse). f.0 < base + length xs) (enumerate_from base xs)
enumerated_below base [] = tt
enumerated_below base (x ∷ xs) =
    (omega arith, weaker (enumerate_from (base + 1) xs) (λ f lt. omega (arith, lt)) (enumerated_below (base + 1) xs))
  where
    weaker : (fs : List (ℕ × FaceUse)) → ((f : ℕ × FaceUse) → f.0 < base + 1 + length xs → f.0 < base + length (x ∷ xs))
        → AllByRecursion (λ (f : ℕ × FaceUse). f.0 < base + 1 + length xs) fs → AllByRecursion (λ (f : ℕ × FaceUse). f.0 < base + length (x ∷ xs)) fs
    weaker [] g h = tt
    weaker (f ∷ fs) g h = (g f h.0, weaker fs g h.1)

pub loops_below : (shell : Shell) → AllByRecursion (λ (p : PlacedLoop). p.at.face.0 < length shell.faces) (placed_loops shell)
loops_below shell =
    all_flat_map (λ (p : PlacedLoop). p.at.face.0 < length shell.faces) (placed_in_face shell.flag) (enumerate_from 0 shell.faces)
    (λ f m. all_map (λ (p : PlacedLoop). p.at.face.0 < length shell.faces) _ (enumerate_from 0 f.1.loops)
    (λ l. let below : f.0 < 0 + length shell.faces = all_has (λ (g : ℕ × FaceUse). g.0 < 0 + length shell.faces) (enumerate_from 0 shell.faces) f
    (enumerated_below 0 shell.faces) m in omega (arith, below)))

pub faces_known : (s : SolidData) (shell : Shell) → AllByRecursion (λ (r : Row). r.at.face.0 < length shell.faces) (shell_rows s shell).rows
unfolding shell_rows
faces_known s shell = rows_all (λ (r : Row). r.at.face.0 < length shell.faces) s shell use_known
  where
    of_edge : (p : PlacedLoop) (edge : EdgeId) (along : Bool) (o : Option Edge) → p.at.face.0 < length shell.faces
        → OptionAll (λ (r : Row). r.at.face.0 < length shell.faces) (row_of_edge p.at edge along o)
    of_edge p edge along None lt = tt
    of_edge p edge true (Some x) lt = lt
    of_edge p edge false (Some x) lt = lt

    use_known : (p : PlacedLoop) (u : LoopUse) → Has (placed_loops shell) p → Has p.loop.uses u
        → OptionAll (λ (r : Row). r.at.face.0 < length shell.faces) (row_of s p u)
    use_known p (EdgeUse edge along) m k = of_edge p edge (same_flag along p.forwards) (slice_get s.edges edge.0)
        (all_has (λ (q : PlacedLoop). q.at.face.0 < length shell.faces) (placed_loops shell) p (loops_below shell) m)
    use_known p (VertexUse vertex) m k = tt

pub edges_rise : (s : SolidData) (shell : Shell) → Rises (shell_rows s shell).edges
unfolding shell_rows
edges_rise s shell = occurring_rises (numbers_from 0 (length s.edges)) (shell_edges shell) (numbers_rise 0 (length s.edges))

pub vertices_rise : (s : SolidData) (shell : Shell) → Rises (shell_rows s shell).vertices
unfolding shell_rows
vertices_rise s shell = occurring_rises (numbers_from 0 (length s.vertices)) (shell_vertices s shell) (numbers_rise 0 (length s.vertices))
