-- The solid of kept entities is told in both files, but for directory numbers.
use Rattle.std.specs.Prelude.{◌≡◌, ℕ, ◌==◌, ◌&&◌, Bool, true, false, ℤ, pos, List, [], ◌∷◌, map, flat_map, Some, if◌then◌else◌, option_map}
use Rattle.std.specs.List.{AllByRecursion, AllZip}
use Rattle.std.proofs.Common.{refl, sym, ◌∙◌, ap, subst}
use Rattle.iges_params.specs.Contents.{Contents}
use Rattle.brep_lists.specs.declared.entity_kind.EntityKind.TheVariants.{EdgeList as edges}
use Rattle.brep_lists.specs.declared.edge_list.EdgeTuple.{EdgeTuple}
use Rattle.solid_data.specs.Ring.{distinct, place_of}
use Rattle.solid_data.specs.Obligations.{entry_number, AllHold}
use Rattle.solid_data.specs.SolidData.{SolidData, same_edge, same_vertex}
use Rattle.solid_data.specs.declared.solid.EdgeKey.{EdgeKey}
use Rattle.solid_data.specs.declared.solid.VertexKey.{VertexKey}
use Rattle.solid_data.specs.declared.solid.LoopUse.TheVariants.{EdgeUse, VertexUse}
use Rattle.solid_data.proofs.Members.{All-at, all_flat_map}
use Rattle.brep_walk.specs.Places.{shells, faces, loops, tuples, edge_at, numbers, NamesKind, places}
use Rattle.brep_numbering.specs.Keys.{Keys}
use Rattle.brep_walk.specs.SolidOf.{edge_key, vertex_key, all_tuples, edge_named, ends_named, vertices_named, edge_keys, vertex_keys, use_by, loop_by, face_by}
use Rattle.brep_walk.specs.SolidOf.{shell_by, numbered_by, edge_by, keys_of, solid_of}
use Rattle.solid_extract.specs.Kept.{renamed_pair, renamed_tuple, renamed_edge}
use Rattle.list_compact.proofs.StillHold.{numbers_all}
use Rattle.extraction_laws.specs.Relabelled.{Names, renumbered, IsRelabelledLoop, IsRelabelledFace, IsRelabelledShell, IsRelabelledEdge, IsRelabelled}
use Rattle.extraction_laws.proofs.Zips.{zip_append}
use Rattle.extraction_laws.proofs.Renames.{IsEntity, IsNew, Renames, number_new, becomes_entity}
use Rattle.extraction_laws.proofs.RenamedLists.{all_distinct, distinct_renamed, place_renamed, same_number, map_known, zip_known}
use Rattle.extraction_laws.proofs.KeptPlaces.{KnownUse, KnownTuple, KnownLoop, KnownFace, KnownShell, KnownSolid, flat_known, numbers_renamed}
use Rattle.extraction_laws.proofs.KeptPlaces.{tuples_new, loops_new, faces_new, shells_new, edge_new, loops_known, faces_known, all_faces_known, solid_known}

-- keys under new numbers
abbrev new_edge_key : (ℕ → ℕ) → EdgeKey → EdgeKey
new_edge_key new key = record { «list» = record { 0 = new key.«list».0 }; index = key.index }

abbrev new_vertex_key : (ℕ → ℕ) → VertexKey → VertexKey
new_vertex_key new key = record { «list» = record { 0 = new key.«list».0 }; index = key.index }

abbrev new_keys : (ℕ → ℕ) → Keys → Keys
new_keys new keys = record { edges = map (new_edge_key new) keys.edges; vertices = map (new_vertex_key new) keys.vertices }

-- what the records tell, by these keys
abbrev solid_by : Contents → ℕ → ℤ → Keys → SolidData
solid_by f n z keys = record {
  entity = record { 0 = n };
  shells = map (shell_by f keys) (shells f z);
  edges = flat_map (edge_by f keys) keys.edges;
  vertices =
      keys.vertices;
}

solid_is : (f : Contents) (n : ℕ) → solid_of f n ≡ solid_by f n (pos n) (keys_of f (pos n))
unfolding solid_of
solid_is f n = refl

module _ (f q : Contents) (K : ℕ → Type 0) (new : ℕ → ℕ) (g : ℤ → ℤ) (h : Renames f q K new g) where
  abbrev N : Names
  N = renumbered (IsNew K new)

  -- ---- keys

  edge_key_new : (z j : ℤ) → IsEntity K z → edge_key (g z) j ≡ new_edge_key new (edge_key z j)
  edge_key_new z j e = ap (λ n. let key : EdgeKey = record { «list» = record { 0 = n }; index = entry_number j } in key) (number_new f q K new g h z e).1

  vertex_key_new : (z j : ℤ) → IsEntity K z → vertex_key (g z) j ≡ new_vertex_key new (vertex_key z j)
  vertex_key_new z j e = ap (λ n. let key : VertexKey = record { «list» = record { 0 = n }; index = entry_number j } in key) (number_new f q K new g h z e).1

  abbrev KnownVertexKey : VertexKey → Type 0
  KnownVertexKey key = K key.«list».0

  -- an edge that both files tell alike
  record KnownEdgeKey (key : EdgeKey) : Type 0 where
    entity : K key.«list».0
    edge : EdgeTuple
    before : edge_at f (pos key.«list».0) key.index ≡ Some edge
    after : edge_at q (pos (new key.«list».0)) key.index ≡ Some (renamed_edge g edge)
    start : IsEntity K edge.start_list
    end : IsEntity K edge.end_list

  same_edges : (a b : EdgeKey) → KnownEdgeKey a → KnownEdgeKey b → same_edge (new_edge_key new a) (new_edge_key new b) ≡ same_edge a b
  same_edges a b x y = ap (λ c. c && (a.index == b.index)) (same_number K new h.apart a.«list».0 b.«list».0 x.entity y.entity)

  same_vertices : (a b : VertexKey) → KnownVertexKey a → KnownVertexKey b → same_vertex (new_vertex_key new a) (new_vertex_key new b) ≡ same_vertex a b
  same_vertices a b x y = ap (λ c. c && (a.index == b.index)) (same_number K new h.apart a.«list».0 b.«list».0 x y)

  edge_after : (z j : ℤ) (x : EdgeTuple) → IsEntity K z → NamesKind edges f z → edge_at f z (entry_number j) ≡ Some x
      → edge_at q (g z) (entry_number j) ≡ Some (renamed_edge g x)
  edge_after z j x e n at = edge_new f q K new g h z (entry_number j) e n ∙ ap (option_map (renamed_edge g)) at

  edge_known : (z j : ℤ) (x : EdgeTuple) → IsEntity K z → NamesKind edges f z → edge_at f z (entry_number j) ≡ Some x → IsEntity K x.start_list
      → IsEntity K x.end_list → KnownEdgeKey (edge_key z j)
  edge_known z j x e n at s t = record {
    entity = (number_new f q K new g h z e).0;
    edge = x;
    before = subst (λ w. edge_at f w (entry_number j) ≡ Some x) (e.1 ∙ sym (ap (λ w. pos (entry_number w)) e.1)) at;
    after = subst (λ w. edge_at q w (entry_number j) ≡ Some (renamed_edge g x)) (becomes_entity f q K new g h z e) (edge_after z j x e n at);
    start = s;
    end = t;
  }

  edge_keys_known : (b : Bool) (z j : ℤ) → KnownUse f K b z j → AllByRecursion KnownEdgeKey (if b then [] else edge_key z j ∷ [])
  edge_keys_known true z j k = tt
  edge_keys_known false z j k = (edge_known z j k.0 k.1 k.2 k.3 k.4 k.5, tt)

  vertex_keys_known : (b : Bool) (z j : ℤ) → KnownUse f K b z j
      → AllByRecursion KnownVertexKey (if b then vertex_key z j ∷ [] else ends_named (edge_at f z (entry_number j)))
  vertex_keys_known true z j k = ((number_new f q K new g h z k).0, tt)
  vertex_keys_known false z j k = subst (λ o. AllByRecursion KnownVertexKey (ends_named o)) (sym k.3)
      ((number_new f q K new g h k.0.start_list k.4).0, ((number_new f q K new g h k.0.end_list k.5).0, tt))

  edges_named_new : (b : Bool) (z j : ℤ) → KnownUse f K b z j → (if b then [] else edge_key (g z) j ∷ [])
      ≡ map (new_edge_key new) (if b then [] else edge_key z j ∷ [])
  edges_named_new true z j k = refl
  edges_named_new false z j k = ap (λ key. key ∷ []) (edge_key_new z j k.1)

  vertices_named_new : (b : Bool) (z j : ℤ) → KnownUse f K b z j
      → (if b then vertex_key (g z) j ∷ [] else ends_named (edge_at q (g z) (entry_number j)))
      ≡ map (new_vertex_key new) (if b then vertex_key z j ∷ [] else ends_named (edge_at f z (entry_number j)))
  vertices_named_new true z j k = ap (λ key. key ∷ []) (vertex_key_new z j k)
  vertices_named_new false z j k =
      ap ends_named (edge_after z j k.0 k.1 k.2 k.3)
      ∙ (ap (λ key. key ∷ vertex_key (g k.0.end_list) k.0.end_index ∷ []) (vertex_key_new k.0.start_list k.0.start_index k.4)
      ∙ (ap (λ key. new_vertex_key new (vertex_key k.0.start_list k.0.start_index) ∷ key ∷ []) (vertex_key_new k.0.end_list k.0.end_index k.5)
      ∙ ap (λ o. map (new_vertex_key new) (ends_named o)) (sym k.3)))

  -- ---- all tuples

  module _ (n : ℤ) (known : KnownSolid f K n) where
    shells_all : AllByRecursion (KnownShell f K) (numbers (shells f n))
    shells_all = numbers_all (KnownShell f K) (shells f n) known.shells

    faces_all : AllByRecursion (KnownFace f K) (flat_map (λ s. numbers (faces f s)) (numbers (shells f n)))
    faces_all = all_faces_known f q K new g h (numbers (shells f n)) shells_all

    loops_all : AllByRecursion (KnownLoop f K) (flat_map (loops f) (flat_map (λ s. numbers (faces f s)) (numbers (shells f n))))
    loops_all =
        all_flat_map (KnownLoop f K) (loops f) (flat_map (λ s. numbers (faces f s)) (numbers (shells f n)))
        (λ c m. let k : KnownFace f K c = All-at (KnownFace f K) (flat_map (λ s. numbers (faces f s)) (numbers (shells f n))) faces_all c m in k.loops)

    tuples_all : AllByRecursion (KnownTuple f K) (all_tuples f n)
    tuples_all =
        all_flat_map (KnownTuple f K) (tuples f) (flat_map (loops f) (flat_map (λ s. numbers (faces f s)) (numbers (shells f n))))
        (λ l m. let k : KnownLoop f K l = All-at (KnownLoop f K) (flat_map (loops f) (flat_map (λ s. numbers (faces f s)) (numbers (shells f n)))) loops_all l
        m in k.tuples)

    all_tuples_new : all_tuples q (g n) ≡ map (renamed_tuple g) (all_tuples f n)
    all_tuples_new =
        ap (λ is. flat_map (tuples q) (flat_map (loops q) (flat_map (λ s. numbers (faces q s)) (numbers is))))
        (shells_new f q K new g h n known.entity known.kind)
        ∙ (ap (λ zs. flat_map (tuples q) (flat_map (loops q) (flat_map (λ s. numbers (faces q s)) zs))) (numbers_renamed g (shells f n))
        ∙ (ap (λ zs. flat_map (tuples q) (flat_map (loops q) zs)) (faces_known f q K new g h (numbers (shells f n)) shells_all)
        ∙ (ap (λ zs. flat_map (tuples q) zs) (loops_known f q K new g h (flat_map (λ s. numbers (faces f s)) (numbers (shells f n))) faces_all)
        ∙ flat_known (KnownLoop f K) g (tuples f) (tuples q) (renamed_tuple g) (λ l k. tuples_new f q K new g h l k.entity k.kind)
        (flat_map (loops f) (flat_map (λ s. numbers (faces f s)) (numbers (shells f n)))) loops_all)))

    edges_all : AllByRecursion KnownEdgeKey (flat_map edge_named (all_tuples f n))
    edges_all =
        all_flat_map KnownEdgeKey edge_named (all_tuples f n)
        (λ t m. edge_keys_known t.is_vertex t.«list» t.index (All-at (KnownTuple f K) (all_tuples f n) tuples_all t m))

    vertices_all : AllByRecursion KnownVertexKey (flat_map (vertices_named f) (all_tuples f n))
    vertices_all =
        all_flat_map KnownVertexKey (vertices_named f) (all_tuples f n)
        (λ t m. vertex_keys_known t.is_vertex t.«list» t.index (All-at (KnownTuple f K) (all_tuples f n) tuples_all t m))

    edge_keys_new : edge_keys q (g n) ≡ map (new_edge_key new) (edge_keys f n)
    edge_keys_new =
        ap (λ ts. distinct same_edge (flat_map edge_named ts)) all_tuples_new
        ∙ (ap (distinct same_edge)
        (flat_known (KnownTuple f K) (renamed_tuple g) edge_named edge_named (new_edge_key new) (λ t k. edges_named_new t.is_vertex t.«list» t.index k)
        (all_tuples f n) tuples_all)
        ∙ distinct_renamed same_edge KnownEdgeKey (new_edge_key new) same_edges (flat_map edge_named (all_tuples f n)) edges_all)

    vertex_keys_new : vertex_keys q (g n) ≡ map (new_vertex_key new) (vertex_keys f n)
    vertex_keys_new =
        ap (λ ts. distinct same_vertex (flat_map (vertices_named q) ts)) all_tuples_new
        ∙ (ap (distinct same_vertex)
        (flat_known (KnownTuple f K) (renamed_tuple g) (vertices_named f) (vertices_named q) (new_vertex_key new)
        (λ t k. vertices_named_new t.is_vertex t.«list» t.index k) (all_tuples f n) tuples_all)
        ∙ distinct_renamed same_vertex KnownVertexKey (new_vertex_key new) same_vertices (flat_map (vertices_named f) (all_tuples f n)) vertices_all)

    keys_new : keys_of q (g n) ≡ new_keys new (keys_of f n)
    keys_new =
        ap (λ ks. let keys : Keys = record { edges = ks; vertices = vertex_keys q (g n) } in keys) edge_keys_new
        ∙ ap (λ ks. let keys : Keys = record { edges = map (new_edge_key new) (edge_keys f n); vertices = ks } in keys) vertex_keys_new

    edge_keys_all : AllByRecursion KnownEdgeKey (edge_keys f n)
    edge_keys_all = all_distinct same_edge KnownEdgeKey (new_edge_key new) same_edges (flat_map edge_named (all_tuples f n)) edges_all

    vertex_keys_all : AllByRecursion KnownVertexKey (vertex_keys f n)
    vertex_keys_all = all_distinct same_vertex KnownVertexKey (new_vertex_key new) same_vertices (flat_map (vertices_named f) (all_tuples f n)) vertices_all

  -- ---- what is told by keys

  module _ (keys : Keys) (known_edges : AllByRecursion KnownEdgeKey keys.edges) (known_vertices : AllByRecursion KnownVertexKey keys.vertices) where
    edge_place : (z j : ℤ) → KnownEdgeKey (edge_key z j) → IsEntity K z → place_of same_edge (map (new_edge_key new) keys.edges) (edge_key (g z) j)
        ≡ place_of same_edge keys.edges (edge_key z j)
    edge_place z j k e =
        ap (place_of same_edge (map (new_edge_key new) keys.edges)) (edge_key_new z j e)
        ∙ place_renamed same_edge KnownEdgeKey (new_edge_key new) same_edges keys.edges (edge_key z j) known_edges k

    vertex_place : (z j : ℤ) → IsEntity K z → place_of same_vertex (map (new_vertex_key new) keys.vertices) (vertex_key (g z) j)
        ≡ place_of same_vertex keys.vertices (vertex_key z j)
    vertex_place z j e =
        ap (place_of same_vertex (map (new_vertex_key new) keys.vertices)) (vertex_key_new z j e)
        ∙ place_renamed same_vertex KnownVertexKey (new_vertex_key new) same_vertices keys.vertices (vertex_key z j) known_vertices
        (number_new f q K new g h z e).0

    use_new : (b flag : Bool) (z j : ℤ) → KnownUse f K b z j
        → (if b then VertexUse (record { 0 = place_of same_vertex (map (new_vertex_key new) keys.vertices) (vertex_key (g z) j) }) else EdgeUse
        (record { 0 = place_of same_edge (map (new_edge_key new) keys.edges) (edge_key (g z) j) }) flag)
        ≡ (if b then VertexUse (record { 0 = place_of same_vertex keys.vertices (vertex_key z j) }) else EdgeUse
        (record { 0 = place_of same_edge keys.edges (edge_key z j) }) flag)
    use_new true flag z j k = ap (λ m. VertexUse (record { 0 = m })) (vertex_place z j k)
    use_new false flag z j k = ap (λ m. EdgeUse (record { 0 = m }) flag) (edge_place z j (edge_known z j k.0 k.1 k.2 k.3 k.4 k.5) k.1)

    loop_new : (l : ℤ) → KnownLoop f K l → IsRelabelledLoop N (loop_by f keys l) (loop_by q (new_keys new keys) (g l))
    loop_new l k = record {
      entity = number_new f q K new g h l k.entity;
      uses =
          sym (ap (map (use_by (new_keys new keys))) (tuples_new f q K new g h l k.entity k.kind)
          ∙ map_known (KnownTuple f K) (renamed_tuple g) (use_by keys) (use_by (new_keys new keys)) (λ t m. use_new t.is_vertex t.flag t.«list» t.index m)
          (tuples f l) k.tuples);
    }

    face_new : (i : ℤ × Bool) → KnownFace f K i.0 → IsRelabelledFace N (face_by f keys i) (face_by q (new_keys new keys) (renamed_pair g i))
    face_new i k = record {
      entity = number_new f q K new g h i.0 k.entity;
      flag = refl;
      loops =
          subst (λ ls. AllZip (IsRelabelledLoop N) (map (loop_by f keys) (loops f i.0)) (map (loop_by q (new_keys new keys)) ls))
          (sym (loops_new f q K new g h i.0 k.entity k.kind))
          (zip_known (KnownLoop f K) (IsRelabelledLoop N) g (loop_by f keys) (loop_by q (new_keys new keys)) loop_new (loops f i.0) k.loops);
    }

    shell_new : (i : ℤ × Bool) → KnownShell f K i.0 → IsRelabelledShell N (shell_by f keys i) (shell_by q (new_keys new keys) (renamed_pair g i))
    shell_new i k = record {
      entity = number_new f q K new g h i.0 k.entity;
      flag = refl;
      faces =
          subst (λ is. AllZip (IsRelabelledFace N) (map (face_by f keys) (faces f i.0)) (map (face_by q (new_keys new keys)) is))
          (sym (faces_new f q K new g h i.0 k.entity k.kind))
          (zip_known (λ (c : ℤ × Bool). KnownFace f K c.0) (IsRelabelledFace N) (renamed_pair g) (face_by f keys) (face_by q (new_keys new keys)) face_new
          (faces f i.0) k.faces);
    }

    one_edge_new : (key : EdgeKey) → KnownEdgeKey key → AllZip (IsRelabelledEdge N) (edge_by f keys key) (edge_by q (new_keys new keys) (new_edge_key new key))
    one_edge_new key k =
        subst (λ o. AllZip (IsRelabelledEdge N) (numbered_by keys key o) (edge_by q (new_keys new keys) (new_edge_key new key))) (sym k.before)
        (subst (λ o. AllZip (IsRelabelledEdge N) (numbered_by keys key (Some k.edge)) (numbered_by (new_keys new keys) (new_edge_key new key) o)) (sym k.after) (
          record {
            key = ((k.entity, refl), refl);
            from = ap (λ m. record { 0 = m }) (sym (vertex_place k.edge.start_list k.edge.start_index k.start));
            to = ap (λ m. record { 0 = m }) (sym (vertex_place k.edge.end_list k.edge.end_index k.end));
          },
          tt,
        ))

    edges_new : (ks : List EdgeKey) → AllByRecursion KnownEdgeKey ks
        → AllZip (IsRelabelledEdge N) (flat_map (edge_by f keys) ks) (flat_map (edge_by q (new_keys new keys)) (map (new_edge_key new) ks))
    edges_new [] all = tt
    edges_new (key ∷ ks) all =
        zip_append (IsRelabelledEdge N) (edge_by f keys key) (flat_map (edge_by f keys) ks) (edge_by q (new_keys new keys) (new_edge_key new key))
        (flat_map (edge_by q (new_keys new keys)) (map (new_edge_key new) ks))
        (one_edge_new key all.0) (edges_new ks all.1)

    vertices_new : (ks : List VertexKey) → AllByRecursion KnownVertexKey ks → AllZip N.vertex ks (map (new_vertex_key new) ks)
    vertices_new [] all = tt
    vertices_new (key ∷ ks) all = (((all.0, refl), refl), vertices_new ks all.1)

    by_keys : (n : ℕ) → K n → KnownSolid f K (pos n) → IsRelabelled N (solid_by f n (pos n) keys) (solid_by q (new n) (g (pos n)) (new_keys new keys))
    by_keys n k known = record {
      entity = (k, refl);
      shells =
          subst (λ is. AllZip (IsRelabelledShell N) (map (shell_by f keys) (shells f (pos n))) (map (shell_by q (new_keys new keys)) is))
          (sym (shells_new f q K new g h (pos n) known.entity known.kind))
          (zip_known (λ (i : ℤ × Bool). KnownShell f K i.0) (IsRelabelledShell N) (renamed_pair g) (shell_by f keys) (shell_by q (new_keys new keys)) shell_new
          (shells f (pos n)) known.shells);
      edges = edges_new keys.edges known_edges;
      vertices = vertices_new keys.vertices known_vertices;
    }

  -- Where the places hold, both files tell the same solid.
  pub solid_relabelled : (n : ℕ) → K n → AllHold (places f n) → IsRelabelled N (solid_of f n) (solid_of q (new n))
  solid_relabelled n k all =
      let known : KnownSolid f K (pos n) = solid_known f q K new g h n k all in
      subst (λ s. IsRelabelled N s (solid_of q (new n))) (sym (solid_is f n))
      (subst (λ t. IsRelabelled N (solid_by f n (pos n) (keys_of f (pos n))) t) (sym (solid_is q (new n)))
      (subst (λ z. IsRelabelled N (solid_by f n (pos n) (keys_of f (pos n))) (solid_by q (new n) z (keys_of q z))) (h.something n k)
      (subst (λ keys. IsRelabelled N (solid_by f n (pos n) (keys_of f (pos n))) (solid_by q (new n) (g (pos n)) keys)) (sym (keys_new (pos n) known))
      (by_keys (keys_of f (pos n)) (edge_keys_all (pos n) known) (vertex_keys_all (pos n) known) n k known))))
