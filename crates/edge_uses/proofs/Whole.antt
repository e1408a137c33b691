-- What the rows of a shell of a solid keep.
use Rattle.std.specs.Prelude.{◌≡◌, ◌<◌, ◌≤◌, ◌+◌, ◌*◌, ◌^◌, ◌==◌, ℕ, zero, suc, Bool, true, false, not, cond, List, [], ◌∷◌, length, map, flat_map, filter, All}
use Rattle.std.specs.Prelude.{Contains, Option, Some, None, slice_get, slice_index}
use Rattle.std.specs.List.{AllByRecursion}
use Rattle.std.specs.List.Sorted.{IsStrictlyIncreasing}
use Rattle.std.proofs.Common.{sym, ◌∙◌, ap, subst, arith, length-append, get_or}
use Rattle.std.proofs.lemmas.Bool.{eqb-true}
use Rattle.std.proofs.lemmas.Option.{same_Some}
use Rattle.solid_data.specs.Ring.{distinct}
use Rattle.solid_data.specs.Numbering.{IsNumberedSolid}
use Rattle.solid_data.specs.SolidData.{SolidData, PlacedLoop, placed_loops, shell_uses, shell_edges, shell_vertices, edge_used, ends_of, vertices_used}
use Rattle.solid_data.specs.declared.solid.Edge.{Edge}
use Rattle.solid_data.specs.declared.solid.EdgeId.{EdgeId}
use Rattle.solid_data.specs.declared.solid.VertexId.{VertexId}
use Rattle.solid_data.specs.declared.solid.LoopAt.{LoopAt}
use Rattle.solid_data.specs.declared.solid.LoopUse.{LoopUse}
use Rattle.solid_data.specs.declared.solid.LoopUse.TheVariants.{EdgeUse, VertexUse}
use Rattle.solid_data.specs.declared.solid.Shell.{Shell}
use Rattle.solid_data.proofs.ObligationLemmas.{AllByRecursion-weaker}
use Rattle.edge_uses.specs.declared.row.Row.{Row}
use Rattle.edge_uses.specs.ShellRows.{ShellRows, shell_rows, loop_rows, point_of, AreRows}
use Rattle.edge_uses.specs.Building.{point_in, HasKnownParts}
use Rattle.edge_uses.specs.Joins.{begin_of}
use Rattle.solid_data.proofs.Members.{Has, Has-from_place, Contains-from_Has, has_flat_map, all_flat_map, all_has, Rises}
use Rattle.solid_data.proofs.Occurring.{VerticesKnown, number_below, length-numbers}
use Rattle.solid_data.proofs.Keys.{to_distinct}
use Rattle.edge_uses.proofs.RowFacts.{loops_below, faces_known, edges_known, starts_known, stops_known, points_known, edges_rise, vertices_rise}
use Rattle.edge_uses.proofs.RowShape.{HasShape, all_shapes, shape_at}
use Rattle.edge_uses.proofs.FollowRows.{each_is_followed}
use Rattle.edge_uses.proofs.Permuted.{rows_permuted, follows_in_loop}
use Rattle.edge_uses.proofs.Few.{part_shorter}
use Rattle.edge_uses.proofs.Steps.{default_apart}
use Rattle.edge_uses.proofs.Adding.{all_rows_shorter}

filter_shorter : (p : ℕ → Bool) (xs : List ℕ) → length (filter p xs) ≤ length xs
filter_shorter p [] = omega arith
filter_shorter p (x ∷ xs) = by_test (p x) (filter_shorter p xs)
  where
    by_test : (b : Bool) → length (filter p xs) ≤ length xs → length (cond b (x ∷ filter p xs) (filter p xs)) ≤ suc (length xs)
    by_test true h = omega (arith, h)
    by_test false h = omega (arith, h)

distinct_shorter : (xs : List ℕ) → length (distinct ◌==◌ xs) ≤ length xs
distinct_shorter [] = omega arith
distinct_shorter (x ∷ xs) = omega (arith, distinct_shorter xs, filter_shorter (λ y. not (x == y)) (distinct ◌==◌ xs))

edges_shorter : (us : List LoopUse) → length (flat_map edge_used us) ≤ length us
edges_shorter [] = omega arith
edges_shorter (EdgeUse edge along ∷ us) = omega (arith, edges_shorter us)
edges_shorter (VertexUse vertex ∷ us) = omega (arith, edges_shorter us)

ends_short : (o : Option Edge) → length (ends_of o) ≤ 2
ends_short None = omega arith
ends_short (Some e) = omega arith

use_short : (s : SolidData) (u : LoopUse) → length (vertices_used s u) ≤ 2
use_short s (EdgeUse edge along) = ends_short (slice_get s.edges edge.0)
use_short s (VertexUse vertex) = omega arith

pub vertices_shorter : (s : SolidData) (us : List LoopUse) → length (flat_map (vertices_used s) us) ≤ 2 * length us
vertices_shorter s [] = omega arith
vertices_shorter s (u ∷ us) = omega (arith, vertices_shorter s us, use_short s u, length-append (vertices_used s u) (flat_map (vertices_used s) us))

shells_edges : (hs : List Shell) → length (flat_map shell_edges hs) ≤ length (flat_map shell_uses hs)
shells_edges [] = omega arith
shells_edges (h ∷ hs) =
    omega (
      arith,
      shells_edges hs,
      edges_shorter (shell_uses h),
      length-append (shell_edges h) (flat_map shell_edges hs),
      length-append (shell_uses h)
          (flat_map shell_uses hs),
    )

shells_vertices : (s : SolidData) (hs : List Shell) → length (flat_map (shell_vertices s) hs) ≤ 2 * length (flat_map shell_uses hs)
shells_vertices s [] = omega arith
shells_vertices s (h ∷ hs) =
    omega (
      arith,
      shells_vertices s hs,
      vertices_shorter s (shell_uses h),
      length-append (shell_vertices s h) (flat_map (shell_vertices s) hs),
      length-append
          (shell_uses h) (flat_map shell_uses hs),
    )

pub few_edges : (s : SolidData) → IsNumberedSolid s → length s.edges < 2 ^ 29
few_edges s numbered =
    omega (
      arith,
      numbered.few_uses,
      shells_edges s.shells,
      distinct_shorter (flat_map shell_edges s.shells),
      ap (λ xs. length xs) numbered.edges,
      length-numbers 0 (length s.edges),
    )

pub few_vertices : (s : SolidData) → IsNumberedSolid s → length s.vertices < 2 ^ 30
few_vertices s numbered =
    omega (
      arith,
      numbered.few_uses,
      shells_vertices s s.shells,
      distinct_shorter (flat_map (shell_vertices s) s.shells),
      ap (λ xs. length xs)
          numbered.vertices,
      length-numbers 0 (length s.vertices),
    )

all_from : (P : ℕ → Type 0) (xs : List ℕ) → ((x : ℕ) → Has xs x → P x) → All P xs
all_from P xs f i d lt = f (get_or xs i d) (Has-from_place xs (get_or xs i d) i lt (default_apart xs i (get_or xs i d) d lt))

pub vertices_known : (s : SolidData) (shell : Shell) → IsNumberedSolid s → Has s.shells shell → VerticesKnown s shell
vertices_known s shell numbered has v m =
    let all : Has (distinct ◌==◌ (flat_map (shell_vertices s) s.shells)) v = to_distinct ◌==◌ eqb-true (flat_map (shell_vertices s) s.shells) v
    (has_flat_map (shell_vertices s) s.shells shell v has m) in
    let b = number_below 0 (length s.vertices) v (subst (λ xs. Has xs v) numbered.vertices all) in
    omega (arith, b.1)

-- each edge and each vertex of a shell is one of the solid
pub known_parts : (s : SolidData) (shell : Shell) → IsNumberedSolid s → Has s.shells shell → HasKnownParts s shell
known_parts s shell numbered has = record {
  edges = all_from (λ e. e < length s.edges) (shell_edges shell) (λ e m.
      let all : Has (distinct ◌==◌ (flat_map shell_edges s.shells)) e = to_distinct ◌==◌ eqb-true (flat_map shell_edges s.shells) e
      (has_flat_map shell_edges s.shells shell e has m) in
      let b = number_below 0 (length s.edges) e (subst (λ xs. Has xs e) numbered.edges all) in
      omega (arith, b.1));
  vertices = all_from (λ v. v < length s.vertices) (shell_vertices s shell) (vertices_known s shell numbered has);
}

points_short : (p : PlacedLoop) (us : List LoopUse) (es : List ℕ) → length (point_of p us es) ≤ 1
points_short p [] [] = omega arith
points_short p [] (e ∷ es) = omega arith
points_short p (EdgeUse edge along ∷ us) [] = omega arith
points_short p (EdgeUse edge along ∷ us) (e ∷ es) = omega arith
points_short p (VertexUse vertex ∷ us) [] = omega arith
points_short p (VertexUse vertex ∷ us) (e ∷ es) = omega arith

all_points_short : (s : SolidData) (ps : List PlacedLoop) → length (flat_map (point_in s) ps) ≤ length ps
all_points_short s [] = omega arith
all_points_short s (p ∷ ps) =
    omega (
      arith,
      all_points_short s ps,
      points_short p p.loop.uses (map (λ (r : Row). r.edge.0) (loop_rows s p)),
      length-append (point_in s p)
          (flat_map (point_in s) ps),
    )

point_on_face : (n : ℕ) (p : PlacedLoop) (us : List LoopUse) (es : List ℕ) → p.at.face.0 < n
    → AllByRecursion (λ (q : LoopAt × ℕ). q.0.face.0 < n) (point_of p us es)
point_on_face n p [] [] h = tt
point_on_face n p [] (e ∷ es) h = tt
point_on_face n p (EdgeUse edge along ∷ us) [] h = tt
point_on_face n p (EdgeUse edge along ∷ us) (e ∷ es) h = tt
point_on_face n p (VertexUse vertex ∷ us) [] h = (h, tt)
point_on_face n p (VertexUse vertex ∷ us) (e ∷ es) h = tt

points_on_faces : (s : SolidData) (shell : Shell)
    → AllByRecursion (λ (q : LoopAt × ℕ). q.0.face.0 < length shell.faces) (flat_map (point_in s) (placed_loops shell))
points_on_faces s shell =
    all_flat_map (λ (q : LoopAt × ℕ). q.0.face.0 < length shell.faces) (point_in s) (placed_loops shell)
    (λ p m. point_on_face (length shell.faces) p p.loop.uses (map (λ (r : Row). r.edge.0) (loop_rows s p))
    (all_has (λ (q : PlacedLoop). q.at.face.0 < length shell.faces) (placed_loops shell) p (loops_below shell) m))

vertex_id : (a b : VertexId) → a.0 ≡ b.0 → a ≡ b
vertex_id a b h = ap (λ n. record { 0 = n }) h

not_back : (a b : Bool) → a ≡ not b → not a ≡ b
not_back a true h = ap not h
not_back a false h = ap not h

one_edge : (s : SolidData) (rows : List Row) (n m : ℕ) (a b : Row) → AllByRecursion (HasShape s) rows → slice_get rows n ≡ Some a → slice_get rows m ≡ Some b
    → a.edge ≡ b.edge
    → (e : Edge) × (a.from.0 ≡ begin_of (Some e) a.along) × (a.to.0 ≡ begin_of (Some e) (not a.along)) × (b.from.0 ≡ begin_of (Some e) b.along)
    × (b.to.0 ≡ begin_of (Some e) (not b.along))
one_edge s rows n m a b all at_n at_m one =
    let x = shape_at s rows n a all at_n in
    let y = shape_at s rows m b all at_m in
    let same : y.0 ≡ x.0 = same_Some y.0 x.0 (sym y.1 ∙ (ap (λ (e : EdgeId). slice_get s.edges e.0) (sym one) ∙ x.1)) in
    (x.0, x.2, x.3, y.2 ∙ ap (λ e. begin_of (Some e) b.along) same, y.3 ∙ ap (λ e. begin_of (Some e) (not b.along)) same)

first_below : (x : ℕ) (xs : List ℕ) → AllByRecursion (λ y. x < y) xs → 0 < length xs → x < slice_index xs 0
first_below x [] h lt = absurd (omega (arith, lt))
first_below x (y ∷ xs) h lt = h.0

pub rising : (xs : List ℕ) → Rises xs → IsStrictlyIncreasing xs
rising [] h k lt = absurd (omega (arith, lt))
rising (x ∷ xs) h zero lt = first_below x xs h.0 (omega (arith, lt))
rising (x ∷ xs) h (suc k) lt = let e : suc k + 1 ≡ suc (k + 1) = omega arith in subst (λ n. slice_index xs k < slice_index (x ∷ xs) n) (sym e)
    (rising xs h.1 k (omega (arith, lt)))

both_hold : (rows : List Row) (vs : List ℕ) → AllByRecursion (λ (r : Row). Has vs r.from.0) rows → AllByRecursion (λ (r : Row). Has vs r.to.0) rows
    → AllByRecursion (λ (r : Row). Contains vs r.from.0 × Contains vs r.to.0) rows
both_hold [] vs a b = tt
both_hold (r ∷ rows) vs a b = ((Contains-from_Has vs r.from.0 a.0, Contains-from_Has vs r.to.0 b.0), both_hold rows vs a.1 b.1)

pub are_rows : (s : SolidData) (shell : Shell) → IsNumberedSolid s → Has s.shells shell → AreRows (shell_rows s shell)
unfolding shell_rows
are_rows s shell numbered has =
    let d : ShellRows = shell_rows s shell in
    let known : VerticesKnown s shell = vertices_known s shell numbered has in
    record {
      few = omega (arith, numbered.few_uses, part_shorter shell_uses s.shells shell has, all_rows_shorter s (placed_loops shell));
      few_faces = omega (arith, numbered.few_faces, part_shorter (λ (h : Shell). h.faces) s.shells shell has);
      few_points = omega (arith, numbered.few_loops, part_shorter placed_loops s.shells shell has, all_points_short s (placed_loops shell));
      on_faces = faces_known s shell;
      points_on_faces = points_on_faces s shell;
      same_ends = λ n m a b at_n at_m one way.
          let k = one_edge s d.rows n m a b (all_shapes s (placed_loops shell)) at_n at_m one in (
            vertex_id a.from b.from (k.1 ∙ (ap (begin_of (Some k.0)) way ∙ sym k.3)),
            vertex_id a.to b.to
                (k.2 ∙ (ap (λ w. begin_of (Some k.0) (not w)) way ∙ sym k.4)),
          );
      exchanged_ends = λ n m a b at_n at_m one way.
          let k = one_edge s d.rows n m a b (all_shapes s (placed_loops shell)) at_n at_m one in (
            vertex_id a.from b.to (k.1 ∙ (ap (begin_of (Some k.0)) way ∙ sym k.4)),
            vertex_id a.to b.from
                (k.2 ∙ (ap (begin_of (Some k.0)) (not_back a.along b.along way) ∙ sym k.3)),
          );
      permuted = rows_permuted s shell;
      in_loop = follows_in_loop s shell;
      followed = each_is_followed s shell;
      edges_rise = rising d.edges (edges_rise s shell);
      edges_hold = AllByRecursion-weaker (λ (r : Row). Has d.edges r.edge.0) (λ (r : Row). Contains d.edges r.edge.0) d.rows
          (λ r. Contains-from_Has d.edges r.edge.0) (edges_known s shell);
      vertices_rise = rising d.vertices (vertices_rise s shell);
      vertices_hold = both_hold d.rows d.vertices (starts_known s shell known) (stops_known s shell known);
      points_hold = AllByRecursion-weaker (λ (p : LoopAt × ℕ). Has d.vertices p.1) (λ (p : LoopAt × ℕ). Contains d.vertices p.1) d.points
          (λ p. Contains-from_Has d.vertices p.1) (points_known s shell known);
    }
