-- The shells of a closed solid have lines that fit.
use Rattle.std.specs.Prelude.{◌≡◌, ℕ, zero, suc, ◌+◌, ◌<◌, ◌^◌, List, [], ◌∷◌, length, map, flat_map, Option, Some, None, slice_get}
use Rattle.std.specs.List.{AllByRecursion, enumerate_from}
use Rattle.std.proofs.Common.{refl, sym, ◌∙◌, ap, subst, arith, inl, inr, ⊎_elim}
use Rattle.std.proofs.lemmas.Option.{same_Some}
use Rattle.solid_data.specs.Ring.{numbers_from}
use Rattle.solid_data.specs.SolidData.{SolidData, PlacedLoop, placed_in_face, placed_loops, same_flag}
use Rattle.solid_data.specs.declared.solid.FaceUse.{FaceUse}
use Rattle.solid_data.specs.declared.solid.Loop.{Loop}
use Rattle.solid_data.specs.declared.solid.LoopAt.{LoopAt}
use Rattle.solid_data.specs.declared.solid.LoopUse.{LoopUse}
use Rattle.solid_data.specs.declared.solid.LoopUse.TheVariants.{EdgeUse, VertexUse}
use Rattle.solid_data.specs.declared.solid.Shell.{Shell}
use Rattle.edge_uses.specs.declared.row.Row.{Row}
use Rattle.edge_uses.specs.ShellRows.{ShellRows, loop_rows, point_of, rows_of, shell_rows}
use Rattle.edge_uses.specs.Before.{IsApart}
use Rattle.edge_uses.specs.Joins.{IsJoined}
use Rattle.edge_uses.specs.RowRelations.{IsPaired}
use Rattle.edge_uses.specs.Around.{IsReached, IsLinked}
use Rattle.shell_rules.specs.Closed.{IsClosedShell, IsClosedSolid}
use Rattle.solid_data.proofs.Members.{all_append, from_flat_map, has_map, Has, All-at, has_get}
use Rattle.solid_data.proofs.Occurring.{numbers_have}
use Rattle.edge_uses.proofs.FollowRows.{each_is_followed}
use Rattle.cert_state.specs.Progress.{rows_of_shell, loops_of, loops_of_shell}
use Rattle.edge_uses.proofs.RowFacts.{edges_rise, vertices_rise}
use Rattle.edge_uses.proofs.Turn.{PairedRows, are_turning}
use Rattle.cert_state.proofs.Segment.{AreGoodRows, row_has}
use Rattle.topo_certificate.proofs.Build.{PointsDiffer}
use Rattle.cert_state.proofs.Short.{IsSmall}
use Rattle.topo_certificate.proofs.Complete.{AreReady}
use Rattle.cert_state.proofs.PointOrder.{faces_of_rows}
use Rattle.shell_rules.proofs.Placed.{enum_get}
use Rattle.cert_accept.specs.Accepted.{AllJoin}
use Rattle.cert_accept.proofs.Sound.{AllKnown, good_rows}

-- Two loops at one place are one.
enum_one : {A : Type 0} (xs : List A) (f g : ℕ × A) → Has (enumerate_from 0 xs) f → Has (enumerate_from 0 xs) g → f.0 ≡ g.0 → f ≡ g
enum_one xs f g h k e =
    let a = enum_get 0 xs f h in
    let b = enum_get 0 xs g k in
    let same : a.0 ≡ b.0 = omega (arith, a.1, b.1, e) in
    let item : f.1 ≡ g.1 = same_Some f.1 g.1 (sym a.2 ∙ (ap (slice_get xs) same ∙ b.2)) in
    ap (λ n. (n, f.1)) e ∙ ap (λ x. (g.0, x)) item

placed_one : (shell : Shell) (p q : PlacedLoop) → Has (placed_loops shell) p → Has (placed_loops shell) q → p.at.face.0 ≡ q.at.face.0 → p.at.place ≡ q.at.place
    → p ≡ q
placed_one shell p q h k face place =
    let f = from_flat_map (placed_in_face shell.flag) (enumerate_from 0 shell.faces) p h in
    let g = from_flat_map (placed_in_face shell.flag) (enumerate_from 0 shell.faces) q k in
    let l = has_map (make f.0) (enumerate_from 0 f.0.1.loops) p f.2 in
    let m = has_map (make g.0) (enumerate_from 0 g.0.1.loops) q g.2 in
    let face_f : f.0.0 ≡ p.at.face.0 = ap (λ (r : PlacedLoop). r.at.face.0) l.2 in
    let face_g : g.0.0 ≡ q.at.face.0 = ap (λ (r : PlacedLoop). r.at.face.0) m.2 in
    let one_face : f.0 ≡ g.0 = enum_one shell.faces f.0 g.0 f.1 g.1 (face_f ∙ (face ∙ sym face_g)) in
    let place_l : l.0.0 ≡ p.at.place = ap (λ (r : PlacedLoop). r.at.place) l.2 in
    let place_m : m.0.0 ≡ q.at.place = ap (λ (r : PlacedLoop). r.at.place) m.2 in
    let one_loop : l.0 ≡ m.0 = enum_one g.0.1.loops l.0 m.0 (subst (λ (z : ℕ × FaceUse). Has (enumerate_from 0 z.1.loops) l.0) one_face l.1) m.1
    (place_l ∙ (place ∙ sym place_m)) in
    sym l.2 ∙ (ap (λ (z : ℕ × FaceUse). make z l.0) one_face ∙ (ap (λ z. make g.0 z) one_loop ∙ m.2))
  where
    make : ℕ × FaceUse → ℕ × Loop → PlacedLoop
    make face l = record { at = record { face = record { 0 = face.0 }; place = l.0 }; forwards = same_flag face.1.flag shell.flag; loop = l.1 }

pub point_is : (p : PlacedLoop) (us : List LoopUse) (es : List ℕ) (x : LoopAt × ℕ) → Has (point_of p us es) x
    → (x.0 ≡ p.at) × ((y : LoopAt × ℕ) → Has (point_of p us es) y → y.1 ≡ x.1)
point_is p [] [] x h = absurd h
point_is p [] (e ∷ es) x h = absurd h
point_is p (EdgeUse edge along ∷ us) [] x h = absurd h
point_is p (EdgeUse edge along ∷ us) (e ∷ es) x h = absurd h
point_is p (VertexUse v ∷ us) (e ∷ es) x h = absurd h
point_is p (VertexUse v ∷ us) [] x (inr h) = absurd h
point_is p (VertexUse v ∷ us) [] x (inl e) = (sym (ap (λ z. z.0) e), λ y m. ⊎_elim (λ f. sym (ap (λ z. z.1) f) ∙ ap (λ z. z.1) e) (λ k. absurd k) m)

points_differ : (s : SolidData) (shell : Shell) → PointsDiffer (shell_rows s shell)
unfolding shell_rows
points_differ s shell x y h k face place =
    let points : PlacedLoop → List (LoopAt × ℕ) = λ p. point_of p p.loop.uses (map (λ (r : Row). r.edge.0) (loop_rows s p)) in
    let p = from_flat_map points (placed_loops shell) x h in
    let q = from_flat_map points (placed_loops shell) y k in
    let at_x = point_is p.0 p.0.loop.uses (map (λ (r : Row). r.edge.0) (loop_rows s p.0)) x p.2 in
    let at_y = point_is q.0 q.0.loop.uses (map (λ (r : Row). r.edge.0) (loop_rows s q.0)) y q.2 in
    let one : p.0 ≡ q.0 = placed_one shell p.0 q.0 p.1 q.1
    (sym (ap (λ (a : LoopAt). a.face.0) at_x.0) ∙ (face ∙ ap (λ (a : LoopAt). a.face.0) at_y.0))
    (sym (ap (λ (a : LoopAt). a.place) at_x.0) ∙ (place ∙ ap (λ (a : LoopAt). a.place) at_y.0)) in
    at_y.1 x (subst (λ z. Has (points z) x) one p.2)

-- What a closed shell's rows are.
pub paired_rows_of : (d : ShellRows) → AreGoodRows d → AllByRecursion (IsPaired d) d.edges → PairedRows d
paired_rows_of d good all n a at = All-at (IsPaired d) d.edges all a.edge.0 (row_has (λ (r : Row). Has d.edges r.edge.0) d.rows n a good.edges at)

shell_ready : (s : SolidData) (k : ℕ) (shell : Shell) → IsSmall s (shell_rows s shell) × (loops_of (Some shell) < 10 ^ 9) → AreGoodRows (shell_rows s shell)
    → IsClosedShell s k shell → AreReady s (shell_rows s shell) (loops_of (Some shell))
shell_ready s k shell small good closed =
    let d : ShellRows = shell_rows s shell in
    let zero_more : (f : ℕ) → 0 + f ≡ f = λ f. omega arith in
    record {
      small = small.0;
      few_loops = small.1;
      good = good;
      proper = record {
        paired = All-at (IsPaired d) d.edges closed.paired;
        reached = λ f lt. All-at (IsReached d) (numbers_from 0 (length shell.faces)) closed.reached f
            (subst (Has (numbers_from 0 (length shell.faces))) (zero_more f)
            (numbers_have 0 (length shell.faces) f (subst (λ n. f < n) (faces_of_rows s shell) lt)));
        linked = All-at (IsLinked d) d.vertices closed.linked;
      };
      turning = are_turning d (paired_rows_of d good closed.paired) good.meet good.exchanged (each_is_followed s shell);
      differ = points_differ s shell;
      edges_rise = edges_rise s shell;
      vertices_rise = vertices_rise s shell;
    }

-- the shells of a closed solid, by their places
pub closed_at : (s : SolidData) (base : ℕ) (xs : List Shell) → AllByRecursion (λ (h : ℕ × Shell). IsClosedShell s h.0 h.1) (enumerate_from base xs)
    → (j : ℕ) (shell : Shell) → slice_get xs j ≡ Some shell → IsClosedShell s (base + j) shell
closed_at s base [] all j shell h = absurd cc
closed_at s base (x ∷ xs) all zero shell h =
    let e : base ≡ base + 0 = omega arith in
    subst (λ n. IsClosedShell s n shell) e (subst (IsClosedShell s base) (same_Some x shell h) all.0)
closed_at s base (x ∷ xs) all (suc j) shell h =
    let e : base + 1 + j ≡ base + suc j = omega arith in
    subst (λ n. IsClosedShell s n shell) e (closed_at s (base + 1) xs all.1 j shell h)

joined_all : (s : SolidData) (base : ℕ) (xs : List Shell) → AllByRecursion (λ (h : ℕ × Shell). IsClosedShell s h.0 h.1) (enumerate_from base xs)
    → AllByRecursion (λ (p : PlacedLoop). IsJoined s p.loop) (flat_map placed_loops xs)
joined_all s base [] all = tt
joined_all s base (x ∷ xs) all = all_append (λ (p : PlacedLoop). IsJoined s p.loop) (placed_loops x) (flat_map placed_loops xs) all.0.joined
    (joined_all s (base + 1) xs all.1)

-- A closed solid joins, and is apart.
pub closed_joins : (s : SolidData) → IsClosedSolid s → AllJoin s
closed_joins s closed = joined_all s 0 s.shells closed

pub apart_all : (s : SolidData) (xs : List (ℕ × Shell)) → AllByRecursion (λ (h : ℕ × Shell). IsClosedShell s h.0 h.1) xs
    → AllByRecursion (λ (h : ℕ × Shell). AllByRecursion (IsApart s h.0) (shell_rows s h.1).vertices) xs
apart_all s [] all = tt
apart_all s (h ∷ xs) all = (all.0.apart, apart_all s xs all.1)

pub closed_is_ready : (s : SolidData)
    → ((shell : Shell) → Has s.shells shell → IsClosedSolid s → IsSmall s (shell_rows s shell) × (loops_of (Some shell) < 10 ^ 9)) → AllKnown s
    → IsClosedSolid s → (j : ℕ) → j < length s.shells → AreReady s (rows_of_shell s (suc j)) (loops_of_shell s (suc j))
closed_is_ready s small known closed j lt = at_shell (slice_get s.shells j) refl
  where
    some_there : (xs : List Shell) (n : ℕ) → n < length xs → slice_get xs n ≡ None → ⊥
    some_there [] n lt e = omega (arith, lt)
    some_there (x ∷ xs) zero lt e = cc
    some_there (x ∷ xs) (suc n) lt e = some_there xs n (omega (arith, lt)) e

    at_shell : (o : Option Shell) → slice_get s.shells j ≡ o → AreReady s (rows_of s o) (loops_of o)
    at_shell None e = absurd (some_there s.shells j lt e)
    at_shell (Some shell) e =
        let good : AreGoodRows (rows_of s (slice_get s.shells j)) = good_rows s (closed_joins s closed) known (suc j) in
        shell_ready s (0 + j) shell (small shell (has_get s.shells j shell e) closed) (subst (λ o. AreGoodRows (rows_of s o)) e good)
        (closed_at s 0 s.shells closed j shell e)
