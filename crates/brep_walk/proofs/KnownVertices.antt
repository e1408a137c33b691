-- The vertices that the shells of a file's solid use are vertices of that solid.
use Rattle.std.specs.Prelude.{◌≡◌, ℕ, ◌<◌, Bool, true, false, ℤ, pos, negsuc, [], ◌∷◌, length, map, flat_map, Option, Some, None, slice_get}
use Rattle.std.specs.Prelude.{if◌then◌else◌}
use Rattle.std.specs.List.{enumerate_from}
use Rattle.std.proofs.Common.{refl, sym, ◌∙◌, ap, subst, inl, inr}
use Rattle.iges_params.specs.Contents.{Contents}
use Rattle.brep_lists.specs.Record.{LoopTuple}
use Rattle.brep_lists.specs.declared.edge_list.EdgeTuple.{EdgeTuple}
use Rattle.brep_walk.specs.Places.{shells, faces, loops, tuples, edge_at, numbers}
use Rattle.brep_walk.specs.SolidOf.{edge_key, vertex_key, all_tuples, edge_named, ends_named, vertices_named, edge_keys, vertex_keys, use_of, loop_of, face_of}
use Rattle.brep_walk.specs.SolidOf.{shell_of, numbered_edge, edge_of, solid_of}
use Rattle.solid_data.specs.Ring.{place_of}
use Rattle.solid_data.specs.Obligations.{entry_number}
use Rattle.solid_data.specs.SolidData.{PlacedLoop, placed_in_face, placed_loops, shell_uses, ends_of, vertices_used, same_edge, same_vertex}
use Rattle.solid_data.specs.declared.solid.Edge.{Edge}
use Rattle.solid_data.specs.declared.solid.EdgeKey.{EdgeKey}
use Rattle.solid_data.specs.declared.solid.VertexKey.{VertexKey}
use Rattle.solid_data.specs.declared.solid.FaceUse.{FaceUse}
use Rattle.solid_data.specs.declared.solid.Loop.{Loop}
use Rattle.solid_data.specs.declared.solid.LoopUse.{LoopUse}
use Rattle.solid_data.specs.declared.solid.LoopUse.TheVariants.{EdgeUse, VertexUse}
use Rattle.solid_data.specs.declared.solid.Shell.{Shell}
use Rattle.solid_data.proofs.Members.{from_enumerated, map_has, from_flat_map, has_map, Has, has_flat_map, has_get}
use Rattle.solid_data.proofs.Occurring.{VerticesKnown}
pub use Rattle.solid_data.proofs.Keys.{to_distinct, from_distinct, from_filter}
use Rattle.solid_data.proofs.Keys.{place_below}
use Rattle.brep_numbering.proofs.SameKeys.{vertex_sound, vertex_itself}

-- a key that a tuple names has a number
key_known : (f : Contents) (n : ℤ) (t : LoopTuple) (key : VertexKey) → Has (all_tuples f n) t → Has (vertices_named f t) key
    → place_of same_vertex (vertex_keys f n) key < length (vertex_keys f n)
key_known f n t key here named =
    place_below same_vertex vertex_itself (vertex_keys f n) key
    (to_distinct same_vertex vertex_sound (flat_map (vertices_named f) (all_tuples f n)) key
    (has_flat_map (vertices_named f) (all_tuples f n) t key here named))

-- an edge is found under the number that its key holds
pub edge_by_key : (f : Contents) (e : ℤ) (j : ℕ) (t : EdgeTuple) → edge_at f (pos (entry_number e)) j ≡ Some t → edge_at f e j ≡ Some t
edge_by_key f (pos n) j t h = h
edge_by_key f (negsuc n) j t h = h

ends_known : (f : Contents) (n : ℤ) (x : Edge) → Has (flat_map (edge_of f n) (edge_keys f n)) x
    → (x.from.0 < length (vertex_keys f n)) × (x.to.0 < length (vertex_keys f n))
ends_known f n x h =
    let k = from_flat_map (edge_of f n) (edge_keys f n) x h in
    let t = from_flat_map edge_named (all_tuples f n) k.0 (from_distinct same_edge (flat_map edge_named (all_tuples f n)) k.0 k.1) in
    of_tuple t.0 k.0 t.1 (t.0.is_vertex) refl t.2 (edge_at f (pos k.0.«list».0) k.0.index) refl k.2
  where
    of_tuple : (t : LoopTuple) (key : EdgeKey) → Has (all_tuples f n) t → (b : Bool) → t.is_vertex ≡ b
        → Has (if b then [] else edge_key t.«list» t.index ∷ []) key
        → (o : Option EdgeTuple) → edge_at f (pos key.«list».0) key.index ≡ o → Has (numbered_edge f n key o) x
        → (x.from.0 < length (vertex_keys f n)) × (x.to.0 < length (vertex_keys f n))
    of_tuple t key here true v named o at listed = absurd named
    of_tuple t key here false v (inr named) o at listed = absurd named
    of_tuple t key here false v (inl same) None at listed = absurd listed
    of_tuple t key here false v (inl same) (Some e) at (inr listed) = absurd listed
    of_tuple t key here false v (inl same) (Some e) at (inl is) =
        let found : edge_at f t.«list» (entry_number t.index) ≡ Some e =
        edge_by_key f t.«list» (entry_number t.index) e (ap (λ (q : EdgeKey). edge_at f (pos q.«list».0) q.index) same ∙ at) in
        let vs : vertices_named f t ≡ ends_named (Some e) =
        ap (λ b. if b then vertex_key t.«list» t.index ∷ [] else ends_named (edge_at f t.«list» (entry_number t.index))) v ∙ ap ends_named found in (
          subst (λ (y : Edge). y.from.0 < length (vertex_keys f n)) is
              (key_known f n t (vertex_key e.start_list e.start_index) here (subst (λ ks. Has ks (vertex_key e.start_list e.start_index)) (sym vs) (inl refl))),
          subst (λ (y : Edge). y.to.0 < length (vertex_keys f n)) is
              (key_known f n t (vertex_key e.end_list e.end_index) here (subst (λ ks. Has ks (vertex_key e.end_list e.end_index)) (sym vs) (inr (inl refl)))),
        )

-- each use of a shell is that of a tuple in the file
use_named : (f : Contents) (n : ℤ) (item : ℤ × Bool) → Has (shells f n) item → (u : LoopUse) → Has (shell_uses (shell_of f n item)) u
    → (t : LoopTuple) × Has (all_tuples f n) t × (use_of f n t ≡ u)
use_named f n item here u h =
    let p = from_flat_map (λ (q : PlacedLoop). q.loop.uses) (placed_loops (shell_of f n item)) u h in
    let g = from_flat_map (placed_in_face item.1) (enumerate_from 0 (map (face_of f n) (faces f item.0))) p.0 p.1 in
    let c = has_map (face_of f n) (faces f item.0) g.0.1 (from_enumerated 0 (map (face_of f n) (faces f item.0)) g.0 g.1) in
    let l = has_map _ (enumerate_from 0 g.0.1.loops) p.0 g.2 in
    let k : (x : ℤ) × Has (loops f c.0.0) x × (loop_of f n x ≡ l.0.1) =
    has_map (loop_of f n) (loops f c.0.0) l.0.1 (subst (λ (y : FaceUse). Has y.loops l.0.1) (sym c.2) (from_enumerated 0 g.0.1.loops l.0 l.1)) in
    let uses : map (use_of f n) (tuples f k.0) ≡ p.0.loop.uses = ap (λ (y : Loop). y.uses) (k.2 ∙ ap (λ (q : PlacedLoop). q.loop) l.2) in
    let t = has_map (use_of f n) (tuples f k.0) u (subst (λ us. Has us u) (sym uses) p.2) in
    let shell_in : Has (numbers (shells f n)) item.0 = map_has (λ (i : ℤ × Bool). i.0) (shells f n) item here in
    let face_in : Has (flat_map (λ s. numbers (faces f s)) (numbers (shells f n))) c.0.0 =
    has_flat_map (λ s. numbers (faces f s)) (numbers (shells f n)) item.0 c.0.0 shell_in (map_has (λ (i : ℤ × Bool). i.0) (faces f item.0) c.0 c.1) in
    let loop_in : Has (flat_map (loops f) (flat_map (λ s. numbers (faces f s)) (numbers (shells f n)))) k.0 =
    has_flat_map (loops f) (flat_map (λ s. numbers (faces f s)) (numbers (shells f n))) c.0.0 k.0 face_in k.1 in
    (t.0, has_flat_map (tuples f) (flat_map (loops f) (flat_map (λ s. numbers (faces f s)) (numbers (shells f n)))) k.0 t.0 loop_in t.1, t.2)

pub vertices_known : (f : Contents) (n : ℕ) (shell : Shell) → Has (solid_of f n).shells shell → VerticesKnown (solid_of f n) shell
unfolding solid_of
vertices_known f n shell here v used =
    let item = has_map (shell_of f (pos n)) (shells f (pos n)) shell here in
    let u = from_flat_map (vertices_used (solid_of f n)) (shell_uses shell) v used in
    let t = use_named f (pos n) item.0 item.1 u.0 (subst (λ h. Has (shell_uses h) u.0) (sym item.2) u.1) in
    of_use t.0 t.1 (t.0.is_vertex) refl (subst (λ w. Has (vertices_used (solid_of f n) w) v) (sym t.2) u.2)
  where
    of_edge : (o : Option Edge) (i : ℕ) → slice_get (solid_of f n).edges i ≡ o → Has (ends_of o) v → v < length (vertex_keys f (pos n))
    of_edge None i at h = absurd h
    of_edge (Some x) i at (inl e) = subst (λ w. w < length (vertex_keys f (pos n))) e (ends_known f (pos n) x (has_get (solid_of f n).edges i x at)).0
    of_edge (Some x) i at (inr (inl e)) = subst (λ w. w < length (vertex_keys f (pos n))) e (ends_known f (pos n) x (has_get (solid_of f n).edges i x at)).1
    of_edge (Some x) i at (inr (inr h)) = absurd h

    of_use : (t : LoopTuple) → Has (all_tuples f (pos n)) t → (b : Bool) → t.is_vertex ≡ b
        → Has (vertices_used (solid_of f n) (use_of f (pos n) t)) v → v < length (vertex_keys f (pos n))
    of_use t there b is h = by_case b is (subst (λ c. Has (vertices_used (solid_of f n) (pick t c)) v) is h)
      where
        pick : LoopTuple → Bool → LoopUse
        pick t b = if b then VertexUse (record { 0 = place_of same_vertex (vertex_keys f (pos n)) (vertex_key t.«list» t.index) }) else EdgeUse
            (record { 0 = place_of same_edge (edge_keys f (pos n)) (edge_key t.«list» t.index) }) t.flag

        by_case : (b : Bool) → t.is_vertex ≡ b → Has (vertices_used (solid_of f n) (pick t b)) v → v < length (vertex_keys f (pos n))
        by_case true is (inl e) = subst (λ w. w < length (vertex_keys f (pos n))) e
            (key_known f (pos n) t (vertex_key t.«list» t.index) there
            (subst (λ c. Has (if c then vertex_key t.«list» t.index ∷ [] else ends_named (edge_at f t.«list» (entry_number t.index)))
            (vertex_key t.«list» t.index)) (sym is) (inl refl)))
        by_case true is (inr h) = absurd h
        by_case false is h = of_edge (slice_get (solid_of f n).edges (place_of same_edge (edge_keys f (pos n)) (edge_key t.«list» t.index)))
            (place_of same_edge (edge_keys f (pos n)) (edge_key t.«list» t.index)) refl h
