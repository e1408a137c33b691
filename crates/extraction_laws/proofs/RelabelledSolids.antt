-- The obligations on the shells of relabelled solids.
use Rattle.std.specs.Prelude.{◌≡◌, ◌↔◌, ℕ, ◌+◌, Bool, true, false, not, List, [], ◌∷◌, ◌++◌, length, map, flat_map, filter_map, take, Contains, Option, Some}
use Rattle.std.specs.Prelude.{None, slice_get, if◌then◌else◌}
use Rattle.std.specs.List.{AllZip, enumerate_from}
use Rattle.std.proofs.Common.{refl, sym, ◌∙◌, ap, subst, arith, inl, inr}
use Rattle.solid_data.specs.Ring.{next_of_each, previous_of_each, numbers_from}
use Rattle.solid_data.specs.SolidData.{SolidData, PlacedLoop, placed_in_face, placed_loops, shell_uses, edge_used, ends_of, vertices_used, shell_edges}
use Rattle.solid_data.specs.SolidData.{shell_vertices, same_flag, occurring, edge_name, vertex_name}
use Rattle.solid_data.specs.Obligations.{obligation}
use Rattle.solid_data.specs.declared.solid.Edge.{Edge}
use Rattle.solid_data.specs.declared.solid.EdgeId.{EdgeId}
use Rattle.solid_data.specs.declared.solid.VertexKey.{VertexKey}
use Rattle.solid_data.specs.declared.solid.Loop.{Loop}
use Rattle.solid_data.specs.declared.solid.LoopAt.{LoopAt}
use Rattle.solid_data.specs.declared.solid.LoopUse.{LoopUse}
use Rattle.solid_data.specs.declared.solid.LoopUse.TheVariants.{EdgeUse, VertexUse}
use Rattle.solid_data.specs.declared.solid.FaceUse.{FaceUse}
use Rattle.solid_data.specs.declared.solid.Shell.{Shell}
use Rattle.solid_data.specs.declared.verdict.Rule.{Rule}
use Rattle.solid_data.specs.declared.verdict.Rule.TheVariants.{Unjoined, Unpaired, Unreached, Unlinked, Shared}
use Rattle.solid_data.proofs.Members.{Has, get_some}
use Rattle.solid_data.proofs.Occurring.{number_below}
use Rattle.edge_uses.specs.declared.row.Row.{Row}
use Rattle.edge_uses.specs.ShellRows.{ShellRows, row_of_edge, row_of, loop_rows, follows_from, point_of, shell_rows}
use Rattle.edge_uses.specs.Before.{IsApart}
use Rattle.edge_uses.specs.Joins.{begin_of, start_of, end_of, ends_and_starts, loop_obligations, join_obligations}
use Rattle.edge_uses.specs.RowRelations.{IsPaired}
use Rattle.edge_uses.specs.Around.{IsReached, IsLinked}
use Rattle.shell_rules.specs.ShellObligations.{at_edge, at_vertex, pair_obligations, reach_obligations}
use Rattle.shell_rules.specs.ShellObligations.{link_obligations, apart_obligations, shell_obligations, solid_obligations}
use Rattle.solid_extract.proofs.Copies.{zip_length}
use Rattle.extraction_laws.specs.Alike.{AllAlike, FailAlike, OneAlike}
use Rattle.extraction_laws.specs.Relabelled.{Names, IsRelabelledLoop, IsRelabelledFace, IsRelabelledShell, IsRelabelledEdge, IsRelabelled, AreNamed}
use Rattle.extraction_laws.specs.Relabelled.{AreNamedAlike}
use Rattle.extraction_laws.proofs.AlikeLists.{append_all, fails_alike, map_alike, map_same_alike, of_each_alike}
use Rattle.extraction_laws.proofs.Zips.{OptionZip, zip_get, zip_map, zip_flat_map, Numbered, zip_enumerate, zip_take, zip_same}

-- ---- lists of numbers

-- a number that occurs is one of those looked through
from_numbers : (ns ids : List ℕ) (v : ℕ) → Has (occurring ns ids) v → Has ns v
from_numbers [] ids v h = h
from_numbers (n ∷ ns) ids v h = by_test _ h (λ m. from_numbers ns ids v m)
  where
    by_test : (b : Bool) → Has (if b then n ∷ occurring ns ids else occurring ns ids) v → (Has (occurring ns ids) v → Has ns v) → Has (n ∷ ns) v
    by_test true (inl e) more = inl e
    by_test true (inr m) more = inr (more m)
    by_test false m more = inr (more m)

occurring_there : {A : Type 0} (xs : List A) (ids : List ℕ) (k : ℕ) → Has (occurring (numbers_from 0 (length xs)) ids) k → (x : A) × (slice_get xs k ≡ Some x)
occurring_there xs ids k h = get_some xs k (let lt = number_below 0 (length xs) k (from_numbers (numbers_from 0 (length xs)) ids k h) in omega (arith, lt.1))

-- ---- one loop at its place

pub record IsRelabelledPlaced (N : Names) (p q : PlacedLoop) : Type 0 where
  pub at : p.at ≡ q.at
  pub forwards : p.forwards ≡ q.forwards
  pub loop : IsRelabelledLoop N p.loop q.loop

module _ (N : Names) where
  placed_face : (a b : Bool) → a ≡ b → (x y : ℕ × FaceUse) → Numbered (IsRelabelledFace N) x y
      → AllZip (IsRelabelledPlaced N) (placed_in_face a x) (placed_in_face b y)
  placed_face a b same x y h =
      zip_map (Numbered (IsRelabelledLoop N)) (IsRelabelledPlaced N)
      (λ (l : ℕ × Loop). let p : PlacedLoop = record { at = record { face = record { 0 = x.0 }; place = l.0 }; forwards = same_flag x.1.flag a; loop = l.1 }
      in p)
      (λ (l : ℕ × Loop). let p : PlacedLoop = record { at = record { face = record { 0 = y.0 }; place = l.0 }; forwards = same_flag y.1.flag b; loop = l.1 }
      in p)
      (enumerate_from 0 x.1.loops) (enumerate_from 0 y.1.loops)
      (zip_enumerate (IsRelabelledLoop N) 0 x.1.loops y.1.loops h.1.loops)
      (λ l m k. record {
        at = ap (λ (n : ℕ). let p : LoopAt = record { face = record { 0 = n }; place = l.0 } in p) h.0
            ∙ ap (λ (n : ℕ). let p : LoopAt = record { face = record { 0 = y.0 }; place = n } in p) k.0;
        forwards = ap (λ c. same_flag c a) h.1.flag ∙ ap (λ c. same_flag y.1.flag c) same;
        loop = k.1;
      })

  placed : (a b : Shell) → IsRelabelledShell N a b → AllZip (IsRelabelledPlaced N) (placed_loops a) (placed_loops b)
  placed a b h =
      zip_flat_map (Numbered (IsRelabelledFace N)) (IsRelabelledPlaced N) (placed_in_face a.flag) (placed_in_face b.flag) (enumerate_from 0 a.faces)
      (enumerate_from 0 b.faces)
      (zip_enumerate (IsRelabelledFace N) 0 a.faces b.faces h.faces) (placed_face a.flag b.flag h.flag)

  uses_same : (a b : Shell) → IsRelabelledShell N a b → shell_uses a ≡ shell_uses b
  uses_same a b h = zip_same (IsRelabelledPlaced N) (λ (p : PlacedLoop). p.loop.uses) (λ (p : PlacedLoop). p.loop.uses) (placed_loops a) (placed_loops b)
      (placed a b h) (λ p q k. k.loop.uses)

  begin_same : (a b : Option Edge) → OptionZip (IsRelabelledEdge N) a b → (along : Bool) → begin_of a along ≡ begin_of b along
  begin_same None None h along = refl
  begin_same None (Some y) h along = absurd h
  begin_same (Some x) None h along = absurd h
  begin_same (Some x) (Some y) h true = ap (λ (v : _). v.0) h.from
  begin_same (Some x) (Some y) h false = ap (λ (v : _). v.0) h.to

-- ---- two solids

module _ (N : Names) (s t : SolidData) (h : IsRelabelled N s t) where
  edge_zip : (e : ℕ) → OptionZip (IsRelabelledEdge N) (slice_get s.edges e) (slice_get t.edges e)
  edge_zip e = zip_get (IsRelabelledEdge N) s.edges t.edges e h.edges

  starts_same : start_of s ≡ start_of t
  starts_same = λ i u. at u i
    where
      at : (u : LoopUse) → start_of s u ≡ start_of t u
      at (EdgeUse edge along) = begin_same N (slice_get s.edges edge.0) (slice_get t.edges edge.0) (edge_zip edge.0) along
      at (VertexUse vertex) = refl

  ends_same : end_of s ≡ end_of t
  ends_same = λ i u. at u i
    where
      at : (u : LoopUse) → end_of s u ≡ end_of t u
      at (EdgeUse edge along) = begin_same N (slice_get s.edges edge.0) (slice_get t.edges edge.0) (edge_zip edge.0) (not along)
      at (VertexUse vertex) = refl

  vertices_same : vertices_used s ≡ vertices_used t
  vertices_same = λ i u. at u i
    where
      of_edge : (a b : Option Edge) → OptionZip (IsRelabelledEdge N) a b → ends_of a ≡ ends_of b
      of_edge None None z = refl
      of_edge None (Some y) z = absurd z
      of_edge (Some x) None z = absurd z
      of_edge (Some x) (Some y) z = ap (λ (v : _). v.0 ∷ x.to.0 ∷ []) z.from ∙ ap (λ (v : _). y.from.0 ∷ v.0 ∷ []) z.to

      at : (u : LoopUse) → vertices_used s u ≡ vertices_used t u
      at (EdgeUse edge along) = of_edge (slice_get s.edges edge.0) (slice_get t.edges edge.0) (edge_zip edge.0)
      at (VertexUse vertex) = refl

  loop_alike : (l m : Loop) → IsRelabelledLoop N l m → AllAlike (AreNamedAlike N) (loop_obligations s l) (loop_obligations t m)
  loop_alike l m k =
      subst (λ us. AllAlike (AreNamedAlike N) (loop_obligations s l) (map (λ (u : ℕ × ℕ × ℕ). obligation Unjoined m.entity.0 u.0 (u.1 ≡ u.2)) us)) same
      (map_same_alike (AreNamedAlike N) (λ (u : ℕ × ℕ × ℕ). obligation Unjoined l.entity.0 u.0 (u.1 ≡ u.2))
      (λ (u : ℕ × ℕ × ℕ). obligation Unjoined m.entity.0 u.0 (u.1 ≡ u.2))
      (steps s l.uses) (λ u there. (record { rule = refl; named = (k.entity, refl) }, (λ e. e, λ e. e))))
    where
      steps : SolidData → List LoopUse → List (ℕ × ℕ × ℕ)
      steps r us = ends_and_starts 1 (map (end_of r) us) (next_of_each (map (start_of r) us))

      same : ends_and_starts 1 (map (end_of s) l.uses) (next_of_each (map (start_of s) l.uses)) ≡ ends_and_starts 1 (map (end_of t) m.uses)
          (next_of_each (map (start_of t) m.uses))
      same =
          ap (λ us. ends_and_starts 1 (map (end_of s) us) (next_of_each (map (start_of s) us))) k.uses
          ∙ (ap (λ f. ends_and_starts 1 (map f m.uses) (next_of_each (map (start_of s) m.uses))) ends_same
          ∙ ap (λ f. ends_and_starts 1 (map (end_of t) m.uses) (next_of_each (map f m.uses))) starts_same)

  row_same : (p q : PlacedLoop) → IsRelabelledPlaced N p q → row_of s p ≡ row_of t q
  row_same p q k = λ i u. at u i
    where
      of_edge : (x y : LoopAt) → x ≡ y → (e : EdgeId) (along : Bool) (a b : Option Edge) → OptionZip (IsRelabelledEdge N) a b
          → row_of_edge x e along a ≡ row_of_edge y e along b
      of_edge x y same e along None None z = refl
      of_edge x y same e along None (Some c) z = absurd z
      of_edge x y same e along (Some a) None z = absurd z
      of_edge x y same e true (Some a) (Some b) z =
          ap (λ w. let r : Row = record { at = w; edge = e; along = true; from = a.from; to = a.to } in Some r) same
          ∙ (ap (λ w. let r : Row = record { at = y; edge = e; along = true; from = w; to = a.to } in Some r) z.from
          ∙ ap (λ w. let r : Row = record { at = y; edge = e; along = true; from = b.from; to = w } in Some r) z.to)
      of_edge x y same e false (Some a) (Some b) z =
          ap (λ w. let r : Row = record { at = w; edge = e; along = false; from = a.to; to = a.from } in Some r) same
          ∙ (ap (λ w. let r : Row = record { at = y; edge = e; along = false; from = w; to = a.from } in Some r) z.to
          ∙ ap (λ w. let r : Row = record { at = y; edge = e; along = false; from = b.to; to = w } in Some r) z.from)

      at : (u : LoopUse) → row_of s p u ≡ row_of t q u
      at (EdgeUse edge along) =
          ap (λ c. row_of_edge p.at edge (same_flag along c) (slice_get s.edges edge.0)) k.forwards
          ∙ of_edge p.at q.at k.at edge (same_flag along q.forwards) (slice_get s.edges edge.0) (slice_get t.edges edge.0) (edge_zip edge.0)
      at (VertexUse vertex) = refl

  rows_same : (p q : PlacedLoop) → IsRelabelledPlaced N p q → loop_rows s p ≡ loop_rows t q
  rows_same p q k = ap (λ f. filter_map f p.loop.uses) (row_same p q k) ∙ ap (λ us. filter_map (row_of t q) us) k.loop.uses

  follows_same : (base : ℕ) (ps qs : List PlacedLoop) → AllZip (IsRelabelledPlaced N) ps qs → follows_from s base ps ≡ follows_from t base qs
  follows_same base [] [] z = refl
  follows_same base [] (q ∷ qs) z = absurd z
  follows_same base (p ∷ ps) [] z = absurd z
  follows_same base (p ∷ ps) (q ∷ qs) z =
      ap (λ c. (if c then next_of_each (numbers_from base (length (loop_rows s p))) else previous_of_each (numbers_from base (length (loop_rows s p))))
      ++ follows_from s (base + length (loop_rows s p)) ps) z.0.forwards
      ∙ (ap (λ n. (if q.forwards then next_of_each (numbers_from base n) else previous_of_each (numbers_from base n)) ++ follows_from s (base + n) ps)
      (ap length (rows_same p q z.0))
      ∙ ap (λ ns. (if q.forwards then next_of_each (numbers_from base (length (loop_rows t q))) else previous_of_each
      (numbers_from base (length (loop_rows t q)))) ++ ns) (follows_same (base + length (loop_rows t q)) ps qs z.1))

  point_same : (p q : PlacedLoop) → p.at ≡ q.at → (us : List LoopUse) (es : List ℕ) → point_of p us es ≡ point_of q us es
  point_same p q e [] es = refl
  point_same p q e (EdgeUse edge along ∷ us) es = refl
  point_same p q e (VertexUse vertex ∷ us) [] = ap (λ (a : LoopAt). (a, vertex.0) ∷ []) e
  point_same p q e (VertexUse vertex ∷ us) (x ∷ es) = refl

  points_same : (p q : PlacedLoop) → IsRelabelledPlaced N p q → point_of p p.loop.uses (map (λ (r : Row). r.edge.0) (loop_rows s p))
      ≡ point_of q q.loop.uses (map (λ (r : Row). r.edge.0) (loop_rows t q))
  points_same p q k =
      point_same p q k.at p.loop.uses (map (λ (r : Row). r.edge.0) (loop_rows s p))
      ∙ (ap (λ us. point_of q us (map (λ (r : Row). r.edge.0) (loop_rows s p))) k.loop.uses
      ∙ ap (λ rs. point_of q q.loop.uses (map (λ (r : Row). r.edge.0) rs)) (rows_same p q k))

  shell_vertices_same : (a b : Shell) → IsRelabelledShell N a b → shell_vertices s a ≡ shell_vertices t b
  shell_vertices_same a b k = ap (λ f. flat_map f (shell_uses a)) vertices_same ∙ ap (λ us. flat_map (vertices_used t) us) (uses_same N a b k)

  shell_edges_same : (a b : Shell) → IsRelabelledShell N a b → shell_edges a ≡ shell_edges b
  shell_edges_same a b k = ap (λ us. flat_map edge_used us) (uses_same N a b k)

  pub shell_rows_same : (a b : Shell) → IsRelabelledShell N a b → shell_rows s a ≡ shell_rows t b
  unfolding shell_rows
  shell_rows_same a b k = λ i. record {
    rows = zip_same (IsRelabelledPlaced N) (loop_rows s) (loop_rows t) (placed_loops a) (placed_loops b) (placed N a b k) rows_same i;
    follows = follows_same 0 (placed_loops a) (placed_loops b) (placed N a b k) i;
    face_count = zip_length (IsRelabelledFace N) a.faces b.faces k.faces i;
    edges = occurring (numbers_from 0 (zip_length (IsRelabelledEdge N) s.edges t.edges h.edges i)) (shell_edges_same a b k i);
    vertices = occurring (numbers_from 0 (zip_length N.vertex s.vertices t.vertices h.vertices i)) (shell_vertices_same a b k i);
    points = zip_same (IsRelabelledPlaced N) (λ (p : PlacedLoop). point_of p p.loop.uses (map (λ (r : Row). r.edge.0) (loop_rows s p)))
        (λ (p : PlacedLoop). point_of p p.loop.uses (map (λ (r : Row). r.edge.0) (loop_rows t p)))
        (placed_loops a) (placed_loops b) (placed N a b k) points_same i;
  }

  -- ---- what is said of the rows

  edge_alike : (holds : Type 0) (o : Option Edge) (x : Edge) → o ≡ Some x → (p : Option Edge) → OptionZip (IsRelabelledEdge N) o p
      → OneAlike (AreNamedAlike N) (at_edge Unpaired (edge_name o) holds) (at_edge Unpaired (edge_name p) holds)
  edge_alike holds None x e p z = absurd cc
  edge_alike holds (Some w) x e None z = absurd z
  edge_alike holds (Some w) x e (Some y) z = (record { rule = refl; named = z.key }, (λ c. c, λ c. c))

  -- the rule names a vertex
  abbrev NamesVertex : Rule → Type 0
  NamesVertex rule = (a b : VertexKey) → N.vertex a b → AreNamed N rule a.«list».0 a.index b.«list».0 b.index

  vertex_alike : (rule : Rule) → NamesVertex rule → (one other : Type 0) → one ↔ other → (o : Option VertexKey) (x : VertexKey) → o ≡ Some x
      → (p : Option VertexKey) → OptionZip N.vertex o p → OneAlike (AreNamedAlike N) (at_vertex rule (vertex_name o) one) (at_vertex rule (vertex_name p) other)
  vertex_alike rule names one other same None x e p z = absurd cc
  vertex_alike rule names one other same (Some w) x e None z = absurd z
  vertex_alike rule names one other same (Some w) x e (Some y) z = (record { rule = refl; named = names w y z }, same)

  vertex_zip : (v : ℕ) → OptionZip N.vertex (slice_get s.vertices v) (slice_get t.vertices v)
  vertex_zip v = zip_get N.vertex s.vertices t.vertices v h.vertices

  edge_there : (a : Shell) (e : ℕ) → Has (shell_rows s a).edges e → (x : Edge) × (slice_get s.edges e ≡ Some x)
  unfolding shell_rows
  edge_there a e m = occurring_there s.edges (shell_edges a) e m

  vertex_there : (a : Shell) (v : ℕ) → Has (shell_rows s a).vertices v → (x : VertexKey) × (slice_get s.vertices v ≡ Some x)
  unfolding shell_rows
  vertex_there a v m = occurring_there s.vertices (shell_vertices s a) v m

  join_alike : (a b : Shell) → IsRelabelledShell N a b → AllAlike (AreNamedAlike N) (join_obligations s a) (join_obligations t b)
  join_alike a b k =
      of_each_alike (AreNamedAlike N) (IsRelabelledPlaced N) (λ (p : PlacedLoop). loop_obligations s p.loop) (λ (p : PlacedLoop). loop_obligations t p.loop)
      (placed_loops a) (placed_loops b) (placed N a b k)
      (λ p q m. loop_alike p.loop q.loop m.loop)

  pair_alike : (a : Shell) → AllAlike (AreNamedAlike N) (pair_obligations s (shell_rows s a)) (pair_obligations t (shell_rows s a))
  pair_alike a =
      map_same_alike (AreNamedAlike N) (λ e. at_edge Unpaired (edge_name (slice_get s.edges e)) (IsPaired (shell_rows s a) e))
      (λ e. at_edge Unpaired (edge_name (slice_get t.edges e)) (IsPaired (shell_rows s a) e)) (shell_rows s a).edges
      (λ e m. let x = edge_there a e m in edge_alike (IsPaired (shell_rows s a) e) (slice_get s.edges e) x.0 x.1 (slice_get t.edges e) (edge_zip e))

  reach_alike : (a b : Shell) → IsRelabelledShell N a b
      → AllAlike (AreNamedAlike N) (reach_obligations a (shell_rows s a)) (reach_obligations b (shell_rows s a))
  reach_alike a b k =
      map_alike (AreNamedAlike N) (Numbered (IsRelabelledFace N)) (λ (f : ℕ × FaceUse). obligation Unreached f.1.entity.0 0 (IsReached (shell_rows s a) f.0))
      (λ (f : ℕ × FaceUse). obligation Unreached f.1.entity.0 0 (IsReached (shell_rows s a) f.0))
      (enumerate_from 0 a.faces) (enumerate_from 0 b.faces) (zip_enumerate (IsRelabelledFace N) 0 a.faces b.faces k.faces)
      (λ f g m. (
        record { rule = refl; named = (m.1.entity, refl) },
        (λ c. subst (IsReached (shell_rows s a)) m.0 c, λ c. subst (IsReached (shell_rows s a)) (sym m.0) c),
      ))

  link_alike : (a : Shell) → AllAlike (AreNamedAlike N) (link_obligations s (shell_rows s a)) (link_obligations t (shell_rows s a))
  link_alike a =
      map_same_alike (AreNamedAlike N) (λ v. at_vertex Unlinked (vertex_name (slice_get s.vertices v)) (IsLinked (shell_rows s a) v))
      (λ v. at_vertex Unlinked (vertex_name (slice_get t.vertices v)) (IsLinked (shell_rows s a) v)) (shell_rows s a).vertices
      (λ v m. let x = vertex_there a v m in vertex_alike Unlinked (λ a b h. h) (IsLinked (shell_rows s a) v) (IsLinked (shell_rows s a) v) (λ c. c, λ c. c)
      (slice_get s.vertices v) x.0 x.1 (slice_get t.vertices v) (vertex_zip v))

  before_same : (k : ℕ) → flat_map (shell_vertices s) (take k s.shells) ≡ flat_map (shell_vertices t) (take k t.shells)
  before_same k = zip_same (IsRelabelledShell N) (shell_vertices s) (shell_vertices t) (take k s.shells) (take k t.shells)
      (zip_take (IsRelabelledShell N) k s.shells t.shells h.shells) shell_vertices_same

  apart_same : (i j : ℕ) → i ≡ j → (v : ℕ) → IsApart s i v ↔ IsApart t j v
  apart_same i j e v = (
    λ apart there. apart (subst (λ vs. Contains vs v) (sym (before_same i ∙ ap (λ n. flat_map (shell_vertices t) (take n t.shells)) e)) there),
    λ apart there. apart (subst (λ vs. Contains vs v) (before_same i ∙ ap (λ n. flat_map (shell_vertices t) (take n t.shells)) e) there),
  )

  apart_alike : (i j : ℕ) → i ≡ j → (a : Shell) → AllAlike (AreNamedAlike N) (apart_obligations s i (shell_rows s a)) (apart_obligations t j (shell_rows s a))
  apart_alike i j e a =
      map_same_alike (AreNamedAlike N) (λ v. at_vertex Shared (vertex_name (slice_get s.vertices v)) (IsApart s i v))
      (λ v. at_vertex Shared (vertex_name (slice_get t.vertices v)) (IsApart t j v)) (shell_rows s a).vertices
      (λ v m. let x = vertex_there a v m in vertex_alike Shared (λ a b h. h) (IsApart s i v) (IsApart t j v) (apart_same i j e v) (slice_get s.vertices v) x.0
      x.1 (slice_get t.vertices v) (vertex_zip v))

  shell_alike : (x y : ℕ × Shell) → Numbered (IsRelabelledShell N) x y → AllAlike (AreNamedAlike N) (shell_obligations s x) (shell_obligations t y)
  unfolding shell_obligations
  shell_alike x y k =
      subst (λ d. AllAlike (AreNamedAlike N) (shell_obligations s x)
      (join_obligations t y.1 ++ pair_obligations t d ++ reach_obligations y.1 d ++ link_obligations t d ++ apart_obligations t y.0 d))
      (shell_rows_same x.1 y.1 k.1)
      (append_all (AreNamedAlike N) (join_obligations s x.1 ++ pair_obligations s d ++ reach_obligations x.1 d ++ link_obligations s d)
      (apart_obligations s x.0 d) (join_obligations t y.1 ++ pair_obligations t d ++ reach_obligations y.1 d ++ link_obligations t d)
      (apart_obligations t y.0 d)
      (append_all (AreNamedAlike N) (join_obligations s x.1 ++ pair_obligations s d ++ reach_obligations x.1 d) (link_obligations s d)
      (join_obligations t y.1 ++ pair_obligations t d ++ reach_obligations y.1 d) (link_obligations t d)
      (append_all (AreNamedAlike N) (join_obligations s x.1 ++ pair_obligations s d) (reach_obligations x.1 d)
      (join_obligations t y.1 ++ pair_obligations t d) (reach_obligations y.1 d)
      (append_all (AreNamedAlike N) (join_obligations s x.1) (pair_obligations s d) (join_obligations t y.1) (pair_obligations t d) (join_alike x.1 y.1 k.1)
      (pair_alike x.1))
      (reach_alike x.1 y.1 k.1))
      (link_alike x.1))
      (apart_alike x.0 y.0 k.0 x.1))
    where
      d : ShellRows
      d = shell_rows s x.1

pub solids_all_alike : (N : Names) (s t : SolidData) → IsRelabelled N s t → AllAlike (AreNamedAlike N) (solid_obligations s) (solid_obligations t)
unfolding solid_obligations
solids_all_alike N s t h =
    of_each_alike (AreNamedAlike N) (Numbered (IsRelabelledShell N)) (shell_obligations s) (shell_obligations t) (enumerate_from 0 s.shells)
    (enumerate_from 0 t.shells)
    (zip_enumerate (IsRelabelledShell N) 0 s.shells t.shells h.shells) (shell_alike N s t h)

pub solids_alike : (N : Names) (s t : SolidData) → IsRelabelled N s t → FailAlike (AreNamedAlike N) (solid_obligations s) (solid_obligations t)
solids_alike N s t h = fails_alike (AreNamedAlike N) (solid_obligations s) (solid_obligations t) (solids_all_alike N s t h)
