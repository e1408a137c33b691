-- An open shell is so small that each number of its certificate has at most nine digits.
use Rattle.std.specs.Prelude.{◌≡◌, ℕ, zero, suc, ◌+◌, ◌<◌, ◌≤◌, ◌==◌, ◌^◌, List, [], ◌∷◌, ◌++◌, length, map, flat_map, filter_map, Some, slice_get}
use Rattle.std.specs.List.{AllByRecursion, enumerate_from}
use Rattle.std.proofs.Common.{refl, sym, ◌∙◌, ap, subst, arith, inl, inr, ⊎_elim, length-append}
use Rattle.std.proofs.lemmas.List.{length-map}
use Rattle.std.proofs.lemmas.List.FromFn.{length-enumerate_from}
use Rattle.std.proofs.lemmas.Bool.{eqb-true}
use Rattle.std.proofs.lemmas.Option.{same_Some, slice_get_within}
use Rattle.solid_data.specs.SolidData.{SolidData, PlacedLoop, placed_in_face, placed_loops, shell_uses, same_flag}
use Rattle.solid_data.specs.Numbering.{IsNumberedSolid}
use Rattle.solid_data.specs.declared.solid.FaceUse.{FaceUse}
use Rattle.solid_data.specs.declared.solid.Loop.{Loop}
use Rattle.solid_data.specs.declared.solid.LoopAt.{LoopAt}
use Rattle.solid_data.specs.declared.solid.LoopUse.{LoopUse}
use Rattle.solid_data.specs.declared.solid.LoopUse.TheVariants.{EdgeUse, VertexUse}
use Rattle.solid_data.specs.declared.solid.Shell.{Shell}
use Rattle.solid_data.proofs.Members.{map_has, from_flat_map, has_map, Has, All-at, no_longer, count_by-total, total, Rises, rises_none, has_left, has_right}
use Rattle.solid_data.proofs.Members.{all_has, has_get}
use Rattle.edge_uses.specs.declared.row.Row.{Row}
use Rattle.edge_uses.specs.ShellRows.{ShellRows, row_of, loop_rows, point_of, shell_rows}
use Rattle.edge_uses.specs.RowRelations.{point_count}
use Rattle.edge_uses.proofs.RowFacts.{loops_below, edges_rise, vertices_rise, edges_known}
use Rattle.edge_uses.proofs.Adding.{rows_shorter}
use Rattle.edge_uses.proofs.Few.{part_shorter}
use Rattle.edge_uses.proofs.Counting.{uses_of_edge, uses-all, counts_of_edge}
use Rattle.topo_certificate.proofs.Build.{found_point, PointsDiffer}
use Rattle.cert_state.proofs.PointOrder.{faces_of_rows}
use Rattle.open_certificate.specs.Sound.{IsOnce, IsFanned, IsSoundShell}
use Rattle.open_certificate.proofs.Once.{total_uses}
use Rattle.shell_rules.proofs.Placed.{enum_get}

-- Two loops at one place are one.

enum_one : {A : Type 0} (xs : List A) (f g : ℕ × A) → Has (enumerate_from 0 xs) f → Has (enumerate_from 0 xs) g → f.0 ≡ g.0 → f ≡ g
enum_one xs f g h k e =
    let a = enum_get 0 xs f h in
    let b = enum_get 0 xs g k in
    let same : a.0 ≡ b.0 = omega (arith, a.1, b.1, e) in
    let item : f.1 ≡ g.1 = same_Some f.1 g.1 (sym a.2 ∙ (ap (slice_get xs) same ∙ b.2)) in
    ap (λ n. (n, f.1)) e ∙ ap (λ x. (g.0, x)) item

placed_one : (shell : Shell) (p q : PlacedLoop) → Has (placed_loops shell) p → Has (placed_loops shell) q → p.at.face.0 ≡ q.at.face.0 → p.at.place ≡ q.at.place
    → p ≡ q
placed_one shell p q h k face place =
    let f = from_flat_map (placed_in_face shell.flag) (enumerate_from 0 shell.faces) p h in
    let g = from_flat_map (placed_in_face shell.flag) (enumerate_from 0 shell.faces) q k in
    let l = has_map (make f.0) (enumerate_from 0 f.0.1.loops) p f.2 in
    let m = has_map (make g.0) (enumerate_from 0 g.0.1.loops) q g.2 in
    let face_f : f.0.0 ≡ p.at.face.0 = ap (λ (r : PlacedLoop). r.at.face.0) l.2 in
    let face_g : g.0.0 ≡ q.at.face.0 = ap (λ (r : PlacedLoop). r.at.face.0) m.2 in
    let one_face : f.0 ≡ g.0 = enum_one shell.faces f.0 g.0 f.1 g.1 (face_f ∙ (face ∙ sym face_g)) in
    let place_l : l.0.0 ≡ p.at.place = ap (λ (r : PlacedLoop). r.at.place) l.2 in
    let place_m : m.0.0 ≡ q.at.place = ap (λ (r : PlacedLoop). r.at.place) m.2 in
    let one_loop : l.0 ≡ m.0 = enum_one g.0.1.loops l.0 m.0 (subst (λ (z : ℕ × FaceUse). Has (enumerate_from 0 z.1.loops) l.0) one_face l.1) m.1
    (place_l ∙ (place ∙ sym place_m)) in
    sym l.2 ∙ (ap (λ (z : ℕ × FaceUse). make z l.0) one_face ∙ (ap (λ z. make g.0 z) one_loop ∙ m.2))
  where
    make : ℕ × FaceUse → ℕ × Loop → PlacedLoop
    make face l = record { at = record { face = record { 0 = face.0 }; place = l.0 }; forwards = same_flag face.1.flag shell.flag; loop = l.1 }

pub point_is : (p : PlacedLoop) (us : List LoopUse) (es : List ℕ) (x : LoopAt × ℕ) → Has (point_of p us es) x
    → (x.0 ≡ p.at) × ((y : LoopAt × ℕ) → Has (point_of p us es) y → y.1 ≡ x.1)
point_is p [] [] x h = absurd h
point_is p [] (e ∷ es) x h = absurd h
point_is p (EdgeUse edge along ∷ us) [] x h = absurd h
point_is p (EdgeUse edge along ∷ us) (e ∷ es) x h = absurd h
point_is p (VertexUse v ∷ us) (e ∷ es) x h = absurd h
point_is p (VertexUse v ∷ us) [] x (inr h) = absurd h
point_is p (VertexUse v ∷ us) [] x (inl e) = (sym (ap (λ z. z.0) e), λ y m. ⊎_elim (λ f. sym (ap (λ z. z.1) f) ∙ ap (λ z. z.1) e) (λ k. absurd k) m)

pub points_differ : (s : SolidData) (shell : Shell) → PointsDiffer (shell_rows s shell)
unfolding shell_rows
points_differ s shell x y h k face place =
    let points : PlacedLoop → List (LoopAt × ℕ) = λ p. point_of p p.loop.uses (map (λ (r : Row). r.edge.0) (loop_rows s p)) in
    let p = from_flat_map points (placed_loops shell) x h in
    let q = from_flat_map points (placed_loops shell) y k in
    let at_x = point_is p.0 p.0.loop.uses (map (λ (r : Row). r.edge.0) (loop_rows s p.0)) x p.2 in
    let at_y = point_is q.0 q.0.loop.uses (map (λ (r : Row). r.edge.0) (loop_rows s q.0)) y q.2 in
    let one : p.0 ≡ q.0 = placed_one shell p.0 q.0 p.1 q.1
    (sym (ap (λ (a : LoopAt). a.face.0) at_x.0) ∙ (face ∙ ap (λ (a : LoopAt). a.face.0) at_y.0))
    (sym (ap (λ (a : LoopAt). a.place) at_x.0) ∙ (place ∙ ap (λ (a : LoopAt). a.place) at_y.0)) in
    at_y.1 x (subst (λ z. Has (points z) x) one p.2)

-- How many rows and points there are.

-- a loop has as many uses as rows, or a use more where it has a point
loop_size : (s : SolidData) (p : PlacedLoop) (us : List LoopUse)
    → length (filter_map (row_of s p) us) + length (point_of p us (map (λ (r : Row). r.edge.0) (filter_map (row_of s p) us))) ≤ length us
loop_size s p [] = omega arith
loop_size s p (EdgeUse used along ∷ us) = by_rows (map (λ (r : Row). r.edge.0) (filter_map (row_of s p) (EdgeUse used along ∷ us)))
    (rows_shorter s p (EdgeUse used along ∷ us))
  where
    by_rows : (es : List ℕ) → length (filter_map (row_of s p) (EdgeUse used along ∷ us)) ≤ length (EdgeUse used along ∷ us)
        → length (filter_map (row_of s p) (EdgeUse used along ∷ us)) + length (point_of p (EdgeUse used along ∷ us) es) ≤ length (EdgeUse used along ∷ us)
    by_rows [] h = omega (arith, h)
    by_rows (e ∷ es) h = omega (arith, h)
loop_size s p (VertexUse v ∷ us) = by_rows (filter_map (row_of s p) us) (rows_shorter s p us)
  where
    by_rows : (rows : List Row) → length rows ≤ length us → length rows + length (point_of p (VertexUse v ∷ us) (map (λ (r : Row). r.edge.0) rows))
        ≤ length (VertexUse v ∷ us)
    by_rows [] h = omega arith
    by_rows (r ∷ rows) h = omega (arith, h)

loops_size : (s : SolidData) (ps : List PlacedLoop)
    → length (flat_map (loop_rows s) ps) + length (flat_map (λ (p : PlacedLoop). point_of p p.loop.uses (map (λ (r : Row). r.edge.0) (loop_rows s p))) ps)
    ≤ length (flat_map (λ (p : PlacedLoop). p.loop.uses) ps)
loops_size s [] = omega arith
loops_size s (p ∷ ps) =
    let points : PlacedLoop → List (LoopAt × ℕ) = λ q. point_of q q.loop.uses (map (λ (r : Row). r.edge.0) (loop_rows s q)) in
    omega (
      arith,
      loop_size s p p.loop.uses,
      loops_size s ps,
      length-append (loop_rows s p) (flat_map (loop_rows s) ps),
      length-append (points p)
          (flat_map points ps),
      length-append p.loop.uses (flat_map (λ (q : PlacedLoop). q.loop.uses) ps),
    )

rows_and_points : (s : SolidData) (h : Shell) → length (shell_rows s h).rows + length (shell_rows s h).points ≤ length (shell_uses h)
unfolding shell_rows
rows_and_points s h = loops_size s (placed_loops h)

-- the vertices of an open shell are starts of rows and points
vertices_size : (d : ShellRows) → Rises d.vertices → AllByRecursion (IsFanned d) d.vertices → length d.vertices ≤ length d.rows + length d.points
vertices_size d rises fanned =
    let starts : List ℕ = map (λ (r : Row). r.from.0) d.rows in
    let lone : List ℕ = map (λ (p : LoopAt × ℕ). p.1) d.points in
    let into : (v : ℕ) → Has d.vertices v → Has (starts ++ lone) v =
    λ v m. ⊎_elim
    (λ c. has_left starts lone v
    (subst (Has starts) c.some.1.2 (map_has (λ (r : Row). r.from.0) d.rows c.some.1.0 (has_get d.rows c.some.0 c.some.1.0 c.some.1.1))))
    (λ p. has_right starts lone v (point_there v p.one_point))
    (All-at (IsFanned d) d.vertices fanned v m) in
    omega (
      arith,
      no_longer d.vertices (starts ++ lone) (rises_none d.vertices rises) into,
      length-append starts lone,
      length-map d.rows
          (λ (r : Row). r.from.0),
      length-map d.points (λ (p : LoopAt × ℕ). p.1),
    )
  where
    point_there : (v : ℕ) → point_count d v ≡ 1 → Has (map (λ (p : LoopAt × ℕ). p.1) d.points) v
    point_there v one =
        let f = found_point (λ (p : LoopAt × ℕ). p.1 == v) d.points (omega (arith, one, count_by-total (λ (p : LoopAt × ℕ). p.1 == v) d.points)) in
        subst (Has (map (λ (p : LoopAt × ℕ). p.1) d.points)) (eqb-true f.0.1 v f.2) (map_has (λ (p : LoopAt × ℕ). p.1) d.points f.0 f.1)

-- where a point lies
points_low : (s : SolidData) (h : Shell) (x : LoopAt × ℕ) → Has (shell_rows s h).points x
    → (x.0.face.0 < length h.faces) × (x.0.place < length (placed_loops h))
unfolding shell_rows
points_low s h x m =
    let p = from_flat_map (λ (q : PlacedLoop). point_of q q.loop.uses (map (λ (r : Row). r.edge.0) (loop_rows s q))) (placed_loops h) x m in
    let at : x.0 ≡ p.0.at = (point_is p.0 p.0.loop.uses (map (λ (r : Row). r.edge.0) (loop_rows s p.0)) x p.2).0 in
    let low : p.0.at.face.0 < length h.faces = all_has (λ (q : PlacedLoop). q.at.face.0 < length h.faces) (placed_loops h) p.0 (loops_below h) p.1 in
    let f = from_flat_map (placed_in_face h.flag) (enumerate_from 0 h.faces) p.0 p.1 in
    let l = has_map _ (enumerate_from 0 f.0.1.loops) p.0 f.2 in
    let g = enum_get 0 f.0.1.loops l.0 l.1 in
    let here : l.0.0 ≡ p.0.at.place = ap (λ (q : PlacedLoop). q.at.place) l.2 in
    let below : g.0 < length f.0.1.loops = slice_get_within f.0.1.loops g.0 l.0.1 g.2 in
    let few : length (placed_in_face h.flag f.0) ≤ length (placed_loops h) = part_shorter (placed_in_face h.flag) (enumerate_from 0 h.faces) f.0 f.1 in
    let sizes : length (placed_in_face h.flag f.0) ≡ length f.0.1.loops = length-map (enumerate_from 0 f.0.1.loops) _ ∙ length-enumerate_from 0 f.0.1.loops in (
      subst (λ (a : LoopAt). a.face.0 < length h.faces) (sym at) low,
      subst (λ (a : LoopAt). a.place < length (placed_loops h)) (sym at) (omega (arith, here, g.1, below, few, sizes)),
    )

-- Sizes.

once_used : (d : ShellRows) (e : ℕ) → IsOnce d e → 1 ≤ uses_of_edge d.rows e
once_used d e (inl one) = omega (arith, one, total_uses d e)
once_used d e (inr pair) = omega (arith, pair.0, pair.1, counts_of_edge d e)

used_total : (d : ShellRows) (es : List ℕ) → AllByRecursion (IsOnce d) es → length es ≤ total (uses_of_edge d.rows) es
used_total d [] h = omega arith
used_total d (e ∷ es) h = omega (arith, once_used d e h.0, used_total d es h.1)

-- no more edges than rows
pub edges_few : (d : ShellRows) → Rises d.edges → AllByRecursion (λ (r : Row). Has d.edges r.edge.0) d.rows → AllByRecursion (IsOnce d) d.edges
    → length d.edges ≤ length d.rows
edges_few d rises known once = omega (arith, used_total d d.edges once, uses-all d.rows d.edges (rises_none d.edges rises) known)

pub record AreSmall (d : ShellRows) : Type 0 where
  pub rows : length d.rows < 2 ^ 29
  pub edges : length d.edges < 10 ^ 9
  pub vertices : length d.vertices < 10 ^ 9
  pub faces : d.face_count < 10 ^ 9
  pub points : (p : LoopAt × ℕ) → Has d.points p → (p.0.face.0 + 1 < 10 ^ 9) × (p.0.place + 1 < 10 ^ 9)

pub sound_small : (s : SolidData) (h : Shell) → IsNumberedSolid s → s.shells ≡ h ∷ [] → IsSoundShell s h → AreSmall (shell_rows s h)
sound_small s h few alone sound =
    let d : ShellRows = shell_rows s h in
    let here : Has s.shells h = subst (λ hs. Has hs h) (sym alone) (inl refl) in
    let both = rows_and_points s h in
    let uses : length (shell_uses h) ≤ length (flat_map shell_uses s.shells) = part_shorter shell_uses s.shells h here in
    let loops : length (placed_loops h) ≤ length (flat_map placed_loops s.shells) = part_shorter placed_loops s.shells h here in
    let faces : length h.faces ≤ length (flat_map (λ (x : Shell). x.faces) s.shells) = part_shorter (λ (x : Shell). x.faces) s.shells h here in
    let edges : length d.edges ≤ length d.rows = edges_few d (edges_rise s h) (edges_known s h) sound.once in
    record {
      rows = omega (arith, both, uses, few.few_uses);
      edges = omega (arith, edges, both, uses, few.few_uses);
      vertices = omega (arith, vertices_size d (vertices_rise s h) sound.fanned, both, uses, few.few_uses);
      faces = subst (λ m. m < 10 ^ 9) (sym (faces_of_rows s h)) (omega (arith, faces, few.few_faces));
      points = λ x m. let low = points_low s h x m in (omega (arith, low.0, faces, few.few_faces), omega (arith, low.1, loops, few.few_loops));
    }
