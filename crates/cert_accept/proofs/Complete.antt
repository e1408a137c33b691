-- What is closed has an accepted certificate.
use Rattle.std.specs.Prelude.{◌≡◌, ℕ, zero, suc, ◌+◌, ◌<◌, ◌≤◌, ◌==◌, ◌^◌, List, [], ◌∷◌, ◌++◌, length, map, flat_map, filter_map, Some, slice_get}
use Rattle.std.specs.List.{AllByRecursion, enumerate_from}
use Rattle.std.proofs.Common.{refl, sym, ◌∙◌, ap, subst, arith, inl, inr, ⊎_elim, length-append}
use Rattle.solid_data.specs.SolidData.{SolidData, PlacedLoop, placed_in_face, placed_loops, shell_uses}
use Rattle.solid_data.specs.declared.solid.LoopAt.{LoopAt}
use Rattle.solid_data.specs.declared.solid.LoopUse.{LoopUse}
use Rattle.solid_data.specs.declared.solid.LoopUse.TheVariants.{EdgeUse, VertexUse}
use Rattle.solid_data.specs.declared.solid.Shell.{Shell}
use Rattle.edge_uses.specs.declared.row.Row.{Row}
use Rattle.edge_uses.specs.ShellRows.{ShellRows, row_of, loop_rows, point_of, shell_rows}
use Rattle.std.proofs.lemmas.List.{length-map}
use Rattle.std.proofs.lemmas.Bool.{eqb-true}
use Rattle.std.proofs.lemmas.List.FromFn.{length-enumerate_from}
use Rattle.std.proofs.lemmas.Option.{slice_get_within}
use Rattle.cert_lines.proofs.CutLines.{cut_spelled}
use Rattle.edge_uses.specs.RowRelations.{IsPaired, point_count}
use Rattle.edge_uses.specs.Around.{IsLinked}
use Rattle.shell_rules.specs.Closed.{IsClosedShell, IsClosedSolid}
use Rattle.solid_data.proofs.Members.{map_has, from_flat_map, has_map, Has, All-at, no_longer, count_by-total, Rises, rises_none, has_left, has_right, all_has}
use Rattle.solid_data.proofs.Members.{has_get}
use Rattle.edge_uses.proofs.Counting.{two_rows_each}
use Rattle.edge_uses.proofs.RowFacts.{loops_below, edges_rise, vertices_rise, edges_known}
use Rattle.edge_uses.proofs.Adding.{rows_shorter}
use Rattle.edge_uses.proofs.Few.{part_shorter}
use Rattle.topo_certificate.proofs.Build.{found_point}
use Rattle.cert_state.proofs.Short.{IsSmall, length-spaced}
use Rattle.cert_state.specs.Progress.{loops_of}
use Rattle.cert_state.proofs.UseSizes.{loops_placed}
use Rattle.cert_lines.specs.declared.version.Version.{Version}
use Rattle.cert_lines.specs.declared.version.Version.TheVariants.{Two}
use Rattle.cert_lines.proofs.LineKinds.{version_short}
use Rattle.topo_certificate.proofs.Complete.{closed_has_legal}
use Rattle.cert_state.proofs.PointOrder.{faces_of_rows}
use Rattle.brep_walk.specs.SolidOf.{solid_of}
use Rattle.solid_data.specs.Numbering.{HasFewParts}
use Rattle.solid_data.specs.Obligations.{AllHold}
use Rattle.brep_walk.specs.Places.{places}
use Rattle.iges_params.specs.Contents.{Contents}
use Rattle.cert_accept.specs.Accepted.{IsAccepted}
use Rattle.shell_rules.proofs.Placed.{enum_get}
use Rattle.cert_accept.proofs.Ready.{point_is, closed_at, closed_joins, apart_all, closed_is_ready}
use Rattle.brep_walk.proofs.KnownVertices.{vertices_known}
use Rattle.cert_text.specs.Text.{spaced}
use Rattle.cert_lines.specs.Line.{CertLine, head, solid, spelling, version_number, first_limit, IsLine}

-- Sizes.

-- a loop has as many uses as rows, or a use more where it has a point
loop_size : (s : SolidData) (p : PlacedLoop) (us : List LoopUse)
    → length (filter_map (row_of s p) us) + length (point_of p us (map (λ (r : Row). r.edge.0) (filter_map (row_of s p) us))) ≤ length us
loop_size s p [] = omega arith
loop_size s p (EdgeUse used along ∷ us) = by_rows (map (λ (r : Row). r.edge.0) (filter_map (row_of s p) (EdgeUse used along ∷ us)))
    (rows_shorter s p (EdgeUse used along ∷ us))
  where
    by_rows : (es : List ℕ) → length (filter_map (row_of s p) (EdgeUse used along ∷ us)) ≤ length (EdgeUse used along ∷ us)
        → length (filter_map (row_of s p) (EdgeUse used along ∷ us)) + length (point_of p (EdgeUse used along ∷ us) es) ≤ length (EdgeUse used along ∷ us)
    by_rows [] h = omega (arith, h)
    by_rows (e ∷ es) h = omega (arith, h)
loop_size s p (VertexUse v ∷ us) = by_rows (filter_map (row_of s p) us) (rows_shorter s p us)
  where
    by_rows : (rows : List Row) → length rows ≤ length us → length rows + length (point_of p (VertexUse v ∷ us) (map (λ (r : Row). r.edge.0) rows))
        ≤ length (VertexUse v ∷ us)
    by_rows [] h = omega arith
    by_rows (r ∷ rows) h = omega (arith, h)

loops_size : (s : SolidData) (ps : List PlacedLoop)
    → length (flat_map (loop_rows s) ps) + length (flat_map (λ (p : PlacedLoop). point_of p p.loop.uses (map (λ (r : Row). r.edge.0) (loop_rows s p))) ps)
    ≤ length (flat_map (λ (p : PlacedLoop). p.loop.uses) ps)
loops_size s [] = omega arith
loops_size s (p ∷ ps) =
    let points : PlacedLoop → List (LoopAt × ℕ) = λ q. point_of q q.loop.uses (map (λ (r : Row). r.edge.0) (loop_rows s q)) in
    omega (
      arith,
      loop_size s p p.loop.uses,
      loops_size s ps,
      length-append (loop_rows s p) (flat_map (loop_rows s) ps),
      length-append (points p)
          (flat_map points ps),
      length-append p.loop.uses (flat_map (λ (q : PlacedLoop). q.loop.uses) ps),
    )

rows_and_points : (s : SolidData) (h : Shell) → length (shell_rows s h).rows + length (shell_rows s h).points ≤ length (shell_uses h)
unfolding shell_rows
rows_and_points s h = loops_size s (placed_loops h)

-- the vertices of a closed shell are starts of rows and points
vertices_size : (d : ShellRows) → Rises d.vertices → AllByRecursion (IsLinked d) d.vertices → length d.vertices ≤ length d.rows + length d.points
vertices_size d rises linked =
    let starts : List ℕ = map (λ (r : Row). r.from.0) d.rows in
    let lone : List ℕ = map (λ (p : LoopAt × ℕ). p.1) d.points in
    let into : (v : ℕ) → Has d.vertices v → Has (starts ++ lone) v =
    λ v m. ⊎_elim
    (λ c. has_left starts lone v
    (subst (Has starts) c.some.1.2 (map_has (λ (r : Row). r.from.0) d.rows c.some.1.0 (has_get d.rows c.some.0 c.some.1.0 c.some.1.1))))
    (λ p. has_right starts lone v (point_there v p.one_point))
    (All-at (IsLinked d) d.vertices linked v m) in
    omega (
      arith,
      no_longer d.vertices (starts ++ lone) (rises_none d.vertices rises) into,
      length-append starts lone,
      length-map d.rows
          (λ (r : Row). r.from.0),
      length-map d.points (λ (p : LoopAt × ℕ). p.1),
    )
  where
    point_there : (v : ℕ) → point_count d v ≡ 1 → Has (map (λ (p : LoopAt × ℕ). p.1) d.points) v
    point_there v one =
        let f = found_point (λ (p : LoopAt × ℕ). p.1 == v) d.points (omega (arith, one, count_by-total (λ (p : LoopAt × ℕ). p.1 == v) d.points)) in
        subst (Has (map (λ (p : LoopAt × ℕ). p.1) d.points)) (eqb-true f.0.1 v f.2) (map_has (λ (p : LoopAt × ℕ). p.1) d.points f.0 f.1)

-- where a point lies
points_low : (s : SolidData) (h : Shell) (x : LoopAt × ℕ) → Has (shell_rows s h).points x
    → (x.0.face.0 < length h.faces) × (x.0.place < length (placed_loops h))
unfolding shell_rows
points_low s h x m =
    let p = from_flat_map (λ (q : PlacedLoop). point_of q q.loop.uses (map (λ (r : Row). r.edge.0) (loop_rows s q))) (placed_loops h) x m in
    let at : x.0 ≡ p.0.at = (point_is p.0 p.0.loop.uses (map (λ (r : Row). r.edge.0) (loop_rows s p.0)) x p.2).0 in
    let low : p.0.at.face.0 < length h.faces = all_has (λ (q : PlacedLoop). q.at.face.0 < length h.faces) (placed_loops h) p.0 (loops_below h) p.1 in
    let f = from_flat_map (placed_in_face h.flag) (enumerate_from 0 h.faces) p.0 p.1 in
    let l = has_map _ (enumerate_from 0 f.0.1.loops) p.0 f.2 in
    let g = enum_get 0 f.0.1.loops l.0 l.1 in
    let here : l.0.0 ≡ p.0.at.place = ap (λ (q : PlacedLoop). q.at.place) l.2 in
    let below : g.0 < length f.0.1.loops = slice_get_within f.0.1.loops g.0 l.0.1 g.2 in
    let few : length (placed_in_face h.flag f.0) ≤ length (placed_loops h) = part_shorter (placed_in_face h.flag) (enumerate_from 0 h.faces) f.0 f.1 in
    let sizes : length (placed_in_face h.flag f.0) ≡ length f.0.1.loops = length-map (enumerate_from 0 f.0.1.loops) _ ∙ length-enumerate_from 0 f.0.1.loops in (
      subst (λ (a : LoopAt). a.face.0 < length h.faces) (sym at) low,
      subst (λ (a : LoopAt). a.place < length (placed_loops h)) (sym at) (omega (arith, here, g.1, below, few, sizes)),
    )

pub has_place : {A : Type 0} (xs : List A) (x : A) → Has xs x → (k : ℕ) × (slice_get xs k ≡ Some x)
has_place [] x h = absurd h
has_place (y ∷ xs) x (inl e) = (zero, ap Some e)
has_place (y ∷ xs) x (inr h) = let k = has_place xs x h in (suc k.0, k.1)

pub shell_small : (s : SolidData) (n : ℕ) → HasFewParts s n → (h : Shell) → Has s.shells h → IsClosedSolid s
    → IsSmall s (shell_rows s h) × (loops_of (Some h) < 10 ^ 9)
shell_small s n few h here closed =
    let d : ShellRows = shell_rows s h in
    let k = has_place s.shells h here in
    let is_closed : IsClosedShell s (0 + k.0) h = closed_at s 0 s.shells closed k.0 h k.1 in
    let both = rows_and_points s h in
    let uses : length (shell_uses h) ≤ length (flat_map shell_uses s.shells) = part_shorter shell_uses s.shells h here in
    let loops : length (placed_loops h) ≤ length (flat_map placed_loops s.shells) = part_shorter placed_loops s.shells h here in
    let faces : length h.faces ≤ length (flat_map (λ (x : Shell). x.faces) s.shells) = part_shorter (λ (x : Shell). x.faces) s.shells h here in
    let two = two_rows_each d (rises_none d.edges (edges_rise s h)) (edges_known s h) (All-at (IsPaired d) d.edges is_closed.paired) in (
      record {
        few = few.few_uses;
        rows = omega (arith, both, uses);
        edges = omega (arith, two, both, uses, few.few_uses);
        vertices = omega (arith, vertices_size d (vertices_rise s h) is_closed.linked, both, uses, few.few_uses);
        faces = subst (λ m. m < 10 ^ 9) (sym (faces_of_rows s h)) (omega (arith, faces, few.few_faces));
        points = λ x m. let low = points_low s h x m in (omega (arith, low.0, faces, few.few_faces), omega (arith, low.1, loops, few.few_loops));
        shells = omega (arith, few.few_shells);
      },
      omega (arith, loops, few.few_loops, loops_placed h.flag 0 h.faces),
    )

-- the head is spelled, and not long
pub head_read : (v : Version) → IsLine first_limit (spelling (head v)) (head v)
head_read v =
    let size = length-append (spaced (version_number v ∷ [])) (10 ∷ []) in
    (omega (arith, size, length-spaced (version_number v ∷ []) (version_short v, tt)), (tt, refl))

-- Where the places hold and the solid is closed there is an accepted certificate.
pub closed_is_accepted : (f : Contents) (n : ℕ) → HasFewParts (solid_of f n) n → AllHold (places f n) → IsClosedSolid (solid_of f n)
    → (certificate : List ℕ) × IsAccepted f certificate Two (n ∷ [])
unfolding solid_of
closed_is_accepted f n few placed closed =
    let s : SolidData = solid_of f n in
    let made = closed_has_legal Two s (closed_is_ready s (shell_small s n few) (vertices_known f n) closed) in
    let all : List CertLine = head Two ∷ solid n ∷ made.0 in
    let size = length-append (spaced (n ∷ [])) (10 ∷ []) in (
      flat_map spelling all,
      (
        n,
        refl,
        record {
          rest = map spelling made.0;
          opens = record {
            first = spelling (head Two);
            second = spelling (solid n);
            cut = cut_spelled all (tt, (few.number, made.2));
            is_head = head_read Two;
            names = (omega (arith, size, length-spaced (n ∷ []) (few.number, tt)), (few.number, refl));
          };
          certified = record {
            placed = placed;
            joined = closed_joins s closed;
            apart = apart_all s (enumerate_from 0 s.shells) closed;
            legal = made.1;
          };
        },
      ),
    )
