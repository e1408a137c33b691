-- Where the places hold, the solid of a file whose unused items are dropped is that of the file, with ranks for indices.
use Rattle.std.specs.Prelude.{◌≡◌, ℕ, ◌==◌, ◌&&◌, ◌≤◌, Bool, true, false, ℤ, pos, negsuc, List, [], ◌∷◌, ◌++◌, map, flat_map, Some, if◌then◌else◌}
use Rattle.std.specs.List.{AllByRecursion, AllZip}
use Rattle.std.proofs.Common.{refl, sym, ◌∙◌, ap, subst}
use Rattle.std.proofs.lemmas.Bool.{eqb-true}
use Rattle.std.proofs.lemmas.List.{map-append}
use Rattle.std.proofs.lemmas.Option.{none-some}
use Rattle.iges_params.specs.Contents.{Contents}
use Rattle.brep_lists.specs.declared.edge_list.EdgeTuple.{EdgeTuple}
use Rattle.solid_data.specs.Ring.{distinct, place_of}
use Rattle.solid_data.specs.Obligations.{entry_number}
use Rattle.solid_data.specs.SolidData.{SolidData, same_edge, same_vertex}
use Rattle.solid_data.specs.declared.solid.EdgeKey.{EdgeKey}
use Rattle.solid_data.specs.declared.solid.VertexKey.{VertexKey}
use Rattle.solid_data.specs.declared.solid.LoopUse.TheVariants.{EdgeUse, VertexUse}
use Rattle.solid_data.proofs.Members.{All-at, all_flat_map}
use Rattle.solid_data.proofs.ObligationLemmas.{AllByRecursion-weaker}
use Rattle.entry_references.proofs.Marks.{same_test}
use Rattle.brep_walk.specs.Places.{shells, faces, loops, tuples, edge_at, numbers}
use Rattle.brep_numbering.specs.Keys.{Keys}
use Rattle.brep_walk.specs.SolidOf.{edge_key, vertex_key, all_tuples, edge_named, ends_named, vertices_named, edge_keys, vertex_keys, use_by, loop_by, face_by}
use Rattle.brep_walk.specs.SolidOf.{shell_by, numbered_by, edge_by, keys_of, solid_of}
use Rattle.list_compact.specs.Used.{rank, is_used_edge, is_used_vertex}
use Rattle.list_compact.specs.Dropped.{edge_index, vertex_index, tuple_index, reindexed_tuple, reindexed_edge, dropped}
use Rattle.list_compact.proofs.Ranks.{rank_apart}
use Rattle.list_compact.proofs.UsedItems.{EdgeStill, VertexStill}
use Rattle.list_compact.proofs.StillHold.{flat_same, numbers_all, KnownEdge, KnownUse, KnownTuple, SameLoop, SameFace, SameShell, SameSolid, faces_known}
use Rattle.list_compact.proofs.StillHold.{solid_holds}
use Rattle.extraction_laws.specs.Relabelled.{Names, IsRelabelledLoop, IsRelabelledFace, IsRelabelledShell, IsRelabelledEdge, IsRelabelled}
use Rattle.extraction_laws.specs.Ranked.{IsRankedVertex, ranked_names, SolidIsRanked}
use Rattle.extraction_laws.proofs.KeptPlaces.{flat_known}
use Rattle.extraction_laws.proofs.RenamedLists.{all_distinct, distinct_renamed, place_renamed, map_known}
use Rattle.extraction_laws.proofs.Zips.{zip_append}

-- ---- lists

-- the same items, what each gives renamed
flat_renamed : {A C D : Type 0} (Known : A → Type 0) (F : A → List C) (G : A → List D) (rename : C → D) → ((x : A) → Known x → G x ≡ map rename (F x))
    → (xs : List A) → AllByRecursion Known xs → flat_map G xs ≡ map rename (flat_map F xs)
flat_renamed Known F G rename same [] known = refl
flat_renamed Known F G rename same (x ∷ xs) known =
    ap (λ zs. zs ++ flat_map G xs) (same x known.0)
    ∙ (ap (λ zs. map rename (F x) ++ zs) (flat_renamed Known F G rename same xs known.1)
    ∙ sym (map-append rename (F x) (flat_map F xs)))

zip_each : {A C D : Type 0} (Known : A → Type 0) (Q : C → D → Type 0) (u : A → C) (v : A → D) → ((x : A) → Known x → Q (u x) (v x)) → (xs : List A)
    → AllByRecursion Known xs → AllZip Q (map u xs) (map v xs)
zip_each Known Q u v same [] all = tt
zip_each Known Q u v same (x ∷ xs) all = (same x all.0, zip_each Known Q u v same xs all.1)

-- ---- what the records tell, by keys

abbrev solid_by : Contents → ℕ → Keys → SolidData
solid_by f n keys = record {
  entity = record { 0 = n };
  shells = map (shell_by f keys) (shells f (pos n));
  edges =
      flat_map (edge_by f keys) keys.edges;
  vertices = keys.vertices;
}

solid_is : (f : Contents) (n : ℕ) → solid_of f n ≡ solid_by f n (keys_of f (pos n))
unfolding solid_of
solid_is f n = refl

module _ (g : Contents) where
  abbrev d : Contents
  d = dropped g

  abbrev N : Names
  N = ranked_names g

  -- ---- keys

  abbrev ranked_edge : EdgeKey → EdgeKey
  ranked_edge key = record { «list» = key.«list»; index = rank (is_used_edge g key.«list».0) key.index }

  abbrev ranked_vertex : VertexKey → VertexKey
  ranked_vertex key = record { «list» = key.«list»; index = rank (is_used_vertex g key.«list».0) key.index }

  abbrev ranked_keys : Keys → Keys
  ranked_keys keys = record { edges = map ranked_edge keys.edges; vertices = map ranked_vertex keys.vertices }

  edge_key_new : (z j : ℤ) → EdgeStill g z j → edge_key z (edge_index g z j) ≡ ranked_edge (edge_key z j)
  edge_key_new z j s = ap (λ (i : ℤ). edge_key z i) s.index_is

  vertex_key_new : (z j : ℤ) → VertexStill g z j → vertex_key z (vertex_index g z j) ≡ ranked_vertex (vertex_key z j)
  vertex_key_new z j s = ap (λ (i : ℤ). vertex_key z i) s.index_is

  record KnownVertexKey (key : VertexKey) : Type 0 where
    used : is_used_vertex g key.«list».0 key.index ≡ true
    low : 1 ≤ key.index

  -- an edge that both files tell alike
  record KnownEdgeKey (key : EdgeKey) : Type 0 where
    used : is_used_edge g key.«list».0 key.index ≡ true
    low : 1 ≤ key.index
    edge : EdgeTuple
    before : edge_at g (pos key.«list».0) key.index ≡ Some edge
    after : edge_at d (pos key.«list».0) (rank (is_used_edge g key.«list».0) key.index) ≡ Some (reindexed_edge g edge)
    start : VertexStill g edge.start_list edge.start_index
    end : VertexStill g edge.end_list edge.end_index

  vertex_known : (z j : ℤ) → VertexStill g z j → KnownVertexKey (vertex_key z j)
  vertex_known z j s = record { used = s.used; low = s.low }

  -- what has an edge is named by a number from 0 on
  list_number : (z : ℤ) (k : ℕ) (x : EdgeTuple) → edge_at g z k ≡ Some x → z ≡ pos (entry_number z)
  list_number (pos m) k x e = refl
  list_number (negsuc m) k x e = absurd (none-some x e)

  edge_known : (z j : ℤ) → KnownEdge g z j → KnownEdgeKey (edge_key z j)
  edge_known z j k =
      let s : EdgeStill g z j = k.still in
      let number : z ≡ pos (entry_number z) = list_number z (entry_number j) s.edge s.before in
      record {
        used = s.used;
        low = s.low;
        edge = s.edge;
        before = subst (λ w. edge_at g w (entry_number j) ≡ Some s.edge) number s.before;
        after = subst (λ w. edge_at d w (rank (is_used_edge g (entry_number z)) (entry_number j)) ≡ Some (reindexed_edge g s.edge)) number
            (subst (λ i. edge_at d z (entry_number i) ≡ Some (reindexed_edge g s.edge)) s.index_is s.after);
        start = k.start;
        end = k.end;
      }

  ranks_tell : (u : ℕ → ℕ → Bool) (e f i j : ℕ) → u e i ≡ true → u f j ≡ true → 1 ≤ i → 1 ≤ j → ((e == f) && (rank (u e) i == rank (u f) j))
      ≡ ((e == f) && (i == j))
  ranks_tell u e f i j ui uj il jl = by_test (e == f) refl
    where
      by_test : (b : Bool) → (e == f) ≡ b → (b && (rank (u e) i == rank (u f) j)) ≡ (b && (i == j))
      by_test false t = refl
      by_test true t =
          let same : e ≡ f = eqb-true e f t in
          same_test (rank (u e) i) (rank (u f) j) i j
          (λ r. rank_apart (u e) i j il jl ui (subst (λ k. u k j ≡ true) (sym same) uj) (r ∙ ap (λ k. rank (u k) j) (sym same)))
          (λ r. ap (rank (u e)) r ∙ ap (λ k. rank (u k) j) same)

  same_edges : (a b : EdgeKey) → KnownEdgeKey a → KnownEdgeKey b → same_edge (ranked_edge a) (ranked_edge b) ≡ same_edge a b
  same_edges a b x y = ranks_tell (is_used_edge g) a.«list».0 b.«list».0 a.index b.index x.used y.used x.low y.low

  same_vertices : (a b : VertexKey) → KnownVertexKey a → KnownVertexKey b → same_vertex (ranked_vertex a) (ranked_vertex b) ≡ same_vertex a b
  same_vertices a b x y = ranks_tell (is_used_vertex g) a.«list».0 b.«list».0 a.index b.index x.used y.used x.low y.low

  -- ---- what tuples name

  edge_keys_known : (b : Bool) (z j : ℤ) → KnownUse g b z j → AllByRecursion KnownEdgeKey (if b then [] else edge_key z j ∷ [])
  edge_keys_known true z j k = tt
  edge_keys_known false z j k = (edge_known z j k, tt)

  vertex_keys_known : (b : Bool) (z j : ℤ) → KnownUse g b z j
      → AllByRecursion KnownVertexKey (if b then vertex_key z j ∷ [] else ends_named (edge_at g z (entry_number j)))
  vertex_keys_known true z j k = (vertex_known z j k, tt)
  vertex_keys_known false z j k =
      let s : EdgeStill g z j = k.still in
      subst (λ o. AllByRecursion KnownVertexKey (ends_named o)) (sym s.before)
      (vertex_known s.edge.start_list s.edge.start_index k.start, (vertex_known s.edge.end_list s.edge.end_index k.end, tt))

  edges_named_new : (b : Bool) (z j : ℤ) → KnownUse g b z j → (if b then [] else edge_key z (tuple_index g b z j) ∷ [])
      ≡ map ranked_edge (if b then [] else edge_key z j ∷ [])
  edges_named_new true z j k = refl
  edges_named_new false z j k = ap (λ key. key ∷ []) (edge_key_new z j k.still)

  vertices_named_new : (b : Bool) (z j : ℤ) → KnownUse g b z j
      → (if b then vertex_key z (tuple_index g b z j) ∷ [] else ends_named (edge_at d z (entry_number (tuple_index g b z j))))
      ≡ map ranked_vertex (if b then vertex_key z j ∷ [] else ends_named (edge_at g z (entry_number j)))
  vertices_named_new true z j k = ap (λ key. key ∷ []) (vertex_key_new z j k)
  vertices_named_new false z j k =
      let s : EdgeStill g z j = k.still in
      ap ends_named s.after
      ∙ (ap (λ key. key ∷ vertex_key s.edge.end_list (vertex_index g s.edge.end_list s.edge.end_index) ∷ [])
      (vertex_key_new s.edge.start_list s.edge.start_index k.start)
      ∙ (ap (λ key. ranked_vertex (vertex_key s.edge.start_list s.edge.start_index) ∷ key ∷ []) (vertex_key_new s.edge.end_list s.edge.end_index k.end)
      ∙ ap (λ o. map ranked_vertex (ends_named o)) (sym s.before)))

  -- ---- all tuples

  module _ (n : ℤ) (known : SameSolid g n) where
    shells_all : AllByRecursion (SameShell g) (numbers (shells g n))
    shells_all = numbers_all (SameShell g) (shells g n) known.shells_same

    faces_all : AllByRecursion (SameFace g) (flat_map (λ s. numbers (faces g s)) (numbers (shells g n)))
    faces_all = faces_known g (numbers (shells g n)) shells_all

    loops_all : AllByRecursion (SameLoop g) (flat_map (loops g) (flat_map (λ s. numbers (faces g s)) (numbers (shells g n))))
    loops_all =
        all_flat_map (SameLoop g) (loops g) (flat_map (λ s. numbers (faces g s)) (numbers (shells g n)))
        (λ c m. let k : SameFace g c = All-at (SameFace g) (flat_map (λ s. numbers (faces g s)) (numbers (shells g n))) faces_all c m in k.loops_same)

    tuples_all : AllByRecursion (KnownTuple g) (all_tuples g n)
    tuples_all =
        all_flat_map (KnownTuple g) (tuples g) (flat_map (loops g) (flat_map (λ s. numbers (faces g s)) (numbers (shells g n))))
        (λ l m. let k : SameLoop g l = All-at (SameLoop g) (flat_map (loops g) (flat_map (λ s. numbers (faces g s)) (numbers (shells g n)))) loops_all l m
        in k.uses)

    all_tuples_new : all_tuples d n ≡ map (reindexed_tuple g) (all_tuples g n)
    all_tuples_new =
        ap (λ is. flat_map (tuples d) (flat_map (loops d) (flat_map (λ s. numbers (faces d s)) (numbers is)))) known.same
        ∙ (ap (λ zs. flat_map (tuples d) (flat_map (loops d) zs))
        (flat_same (λ s. numbers (faces g s)) (λ s. numbers (faces d s)) (numbers (shells g n))
        (AllByRecursion-weaker (SameShell g) (λ s. numbers (faces d s) ≡ numbers (faces g s)) (numbers (shells g n)) (λ s k. ap numbers k.same) shells_all))
        ∙ (ap (λ zs. flat_map (tuples d) zs)
        (flat_same (loops g) (loops d) (flat_map (λ s. numbers (faces g s)) (numbers (shells g n)))
        (AllByRecursion-weaker (SameFace g) (λ c. loops d c ≡ loops g c) (flat_map (λ s. numbers (faces g s)) (numbers (shells g n))) (λ c k. k.same) faces_all))
        ∙ flat_renamed (SameLoop g) (tuples g) (tuples d) (reindexed_tuple g) (λ l k. k.same)
        (flat_map (loops g) (flat_map (λ s. numbers (faces g s)) (numbers (shells g n)))) loops_all))

    edges_all : AllByRecursion KnownEdgeKey (flat_map edge_named (all_tuples g n))
    edges_all =
        all_flat_map KnownEdgeKey edge_named (all_tuples g n)
        (λ t m. edge_keys_known t.is_vertex t.«list» t.index (All-at (KnownTuple g) (all_tuples g n) tuples_all t m))

    vertices_all : AllByRecursion KnownVertexKey (flat_map (vertices_named g) (all_tuples g n))
    vertices_all =
        all_flat_map KnownVertexKey (vertices_named g) (all_tuples g n)
        (λ t m. vertex_keys_known t.is_vertex t.«list» t.index (All-at (KnownTuple g) (all_tuples g n) tuples_all t m))

    edge_keys_new : edge_keys d n ≡ map ranked_edge (edge_keys g n)
    edge_keys_new =
        ap (λ ts. distinct same_edge (flat_map edge_named ts)) all_tuples_new
        ∙ (ap (distinct same_edge)
        (flat_known (KnownTuple g) (reindexed_tuple g) edge_named edge_named ranked_edge (λ t k. edges_named_new t.is_vertex t.«list» t.index k)
        (all_tuples g n) tuples_all)
        ∙ distinct_renamed same_edge KnownEdgeKey ranked_edge same_edges (flat_map edge_named (all_tuples g n)) edges_all)

    vertex_keys_new : vertex_keys d n ≡ map ranked_vertex (vertex_keys g n)
    vertex_keys_new =
        ap (λ ts. distinct same_vertex (flat_map (vertices_named d) ts)) all_tuples_new
        ∙ (ap (distinct same_vertex)
        (flat_known (KnownTuple g) (reindexed_tuple g) (vertices_named g) (vertices_named d) ranked_vertex
        (λ t k. vertices_named_new t.is_vertex t.«list» t.index k) (all_tuples g n) tuples_all)
        ∙ distinct_renamed same_vertex KnownVertexKey ranked_vertex same_vertices (flat_map (vertices_named g) (all_tuples g n)) vertices_all)

    keys_new : keys_of d n ≡ ranked_keys (keys_of g n)
    keys_new =
        ap (λ ks. let keys : Keys = record { edges = ks; vertices = vertex_keys d n } in keys) edge_keys_new
        ∙ ap (λ ks. let keys : Keys = record { edges = map ranked_edge (edge_keys g n); vertices = ks } in keys) vertex_keys_new

    edge_keys_all : AllByRecursion KnownEdgeKey (edge_keys g n)
    edge_keys_all = all_distinct same_edge KnownEdgeKey ranked_edge same_edges (flat_map edge_named (all_tuples g n)) edges_all

    vertex_keys_all : AllByRecursion KnownVertexKey (vertex_keys g n)
    vertex_keys_all = all_distinct same_vertex KnownVertexKey ranked_vertex same_vertices (flat_map (vertices_named g) (all_tuples g n)) vertices_all

  -- ---- what is told by keys

  module _ (keys : Keys) (known_edges : AllByRecursion KnownEdgeKey keys.edges) (known_vertices : AllByRecursion KnownVertexKey keys.vertices) where
    edge_place : (z j : ℤ) → KnownEdge g z j → place_of same_edge (map ranked_edge keys.edges) (edge_key z (edge_index g z j))
        ≡ place_of same_edge keys.edges (edge_key z j)
    edge_place z j k =
        ap (place_of same_edge (map ranked_edge keys.edges)) (edge_key_new z j k.still)
        ∙ place_renamed same_edge KnownEdgeKey ranked_edge same_edges keys.edges (edge_key z j) known_edges (edge_known z j k)

    vertex_place : (z j : ℤ) → VertexStill g z j → place_of same_vertex (map ranked_vertex keys.vertices) (vertex_key z (vertex_index g z j))
        ≡ place_of same_vertex keys.vertices (vertex_key z j)
    vertex_place z j s =
        ap (place_of same_vertex (map ranked_vertex keys.vertices)) (vertex_key_new z j s)
        ∙ place_renamed same_vertex KnownVertexKey ranked_vertex same_vertices keys.vertices (vertex_key z j) known_vertices (vertex_known z j s)

    use_new : (b flag : Bool) (z j : ℤ) → KnownUse g b z j
        → (if b then VertexUse (record { 0 = place_of same_vertex (map ranked_vertex keys.vertices) (vertex_key z (tuple_index g b z j)) }) else EdgeUse
        (record { 0 = place_of same_edge (map ranked_edge keys.edges) (edge_key z (tuple_index g b z j)) }) flag)
        ≡ (if b then VertexUse (record { 0 = place_of same_vertex keys.vertices (vertex_key z j) }) else EdgeUse
        (record { 0 = place_of same_edge keys.edges (edge_key z j) }) flag)
    use_new true flag z j k = ap (λ m. VertexUse (record { 0 = m })) (vertex_place z j k)
    use_new false flag z j k = ap (λ m. EdgeUse (record { 0 = m }) flag) (edge_place z j k)

    loop_new : (l : ℤ) → SameLoop g l → IsRelabelledLoop N (loop_by g keys l) (loop_by d (ranked_keys keys) l)
    loop_new l k = record {
      entity = refl;
      uses =
          sym (ap (map (use_by (ranked_keys keys))) k.same
          ∙ map_known (KnownTuple g) (reindexed_tuple g) (use_by keys) (use_by (ranked_keys keys)) (λ t m. use_new t.is_vertex t.flag t.«list» t.index m)
          (tuples g l) k.uses);
    }

    face_new : (i : ℤ × Bool) → SameFace g i.0 → IsRelabelledFace N (face_by g keys i) (face_by d (ranked_keys keys) i)
    face_new i k = record {
      entity = refl;
      flag = refl;
      loops =
          subst (λ ls. AllZip (IsRelabelledLoop N) (map (loop_by g keys) (loops g i.0)) (map (loop_by d (ranked_keys keys)) ls)) (sym k.same)
          (zip_each (SameLoop g) (IsRelabelledLoop N) (loop_by g keys) (loop_by d (ranked_keys keys)) loop_new (loops g i.0) k.loops_same);
    }

    shell_new : (i : ℤ × Bool) → SameShell g i.0 → IsRelabelledShell N (shell_by g keys i) (shell_by d (ranked_keys keys) i)
    shell_new i k = record {
      entity = refl;
      flag = refl;
      faces =
          subst (λ is. AllZip (IsRelabelledFace N) (map (face_by g keys) (faces g i.0)) (map (face_by d (ranked_keys keys)) is)) (sym k.same)
          (zip_each (λ (c : ℤ × Bool). SameFace g c.0) (IsRelabelledFace N) (face_by g keys) (face_by d (ranked_keys keys)) face_new (faces g i.0)
          (from_numbers (faces g i.0) k.faces_same));
    }
      where
        from_numbers : (items : List (ℤ × Bool)) → AllByRecursion (SameFace g) (numbers items) → AllByRecursion (λ (c : ℤ × Bool). SameFace g c.0) items
        from_numbers [] all = tt
        from_numbers (c ∷ items) all = (all.0, from_numbers items all.1)

    one_edge_new : (key : EdgeKey) → KnownEdgeKey key → AllZip (IsRelabelledEdge N) (edge_by g keys key) (edge_by d (ranked_keys keys) (ranked_edge key))
    one_edge_new key k =
        subst (λ o. AllZip (IsRelabelledEdge N) (numbered_by keys key o) (edge_by d (ranked_keys keys) (ranked_edge key))) (sym k.before)
        (subst (λ o. AllZip (IsRelabelledEdge N) (numbered_by keys key (Some k.edge)) (numbered_by (ranked_keys keys) (ranked_edge key) o)) (sym k.after) (
          record {
            key = record { same = refl; used = k.used; index = refl };
            from = ap (λ m. record { 0 = m }) (sym (vertex_place k.edge.start_list k.edge.start_index k.start));
            to = ap (λ m. record { 0 = m }) (sym (vertex_place k.edge.end_list k.edge.end_index k.end));
          },
          tt,
        ))

    edges_new : (ks : List EdgeKey) → AllByRecursion KnownEdgeKey ks
        → AllZip (IsRelabelledEdge N) (flat_map (edge_by g keys) ks) (flat_map (edge_by d (ranked_keys keys)) (map ranked_edge ks))
    edges_new [] all = tt
    edges_new (key ∷ ks) all =
        zip_append (IsRelabelledEdge N) (edge_by g keys key) (flat_map (edge_by g keys) ks) (edge_by d (ranked_keys keys) (ranked_edge key))
        (flat_map (edge_by d (ranked_keys keys)) (map ranked_edge ks))
        (one_edge_new key all.0) (edges_new ks all.1)

    vertices_new : (ks : List VertexKey) → AllByRecursion KnownVertexKey ks → AllZip (IsRankedVertex g) ks (map ranked_vertex ks)
    vertices_new [] all = tt
    vertices_new (key ∷ ks) all = let k : KnownVertexKey key = all.0 in (record { same = refl; used = k.used; index = refl }, vertices_new ks all.1)

    by_keys : (n : ℕ) → SameSolid g (pos n) → IsRelabelled N (solid_by g n keys) (solid_by d n (ranked_keys keys))
    by_keys n known = record {
      entity = refl;
      shells =
          subst (λ is. AllZip (IsRelabelledShell N) (map (shell_by g keys) (shells g (pos n))) (map (shell_by d (ranked_keys keys)) is)) (sym known.same)
          (zip_each (λ (i : ℤ × Bool). SameShell g i.0) (IsRelabelledShell N) (shell_by g keys) (shell_by d (ranked_keys keys)) shell_new (shells g (pos n))
          known.shells_same);
      edges = edges_new keys.edges known_edges;
      vertices = vertices_new keys.vertices known_vertices;
    }

pub solid_ranked : SolidIsRanked
solid_ranked g n all =
    let known : SameSolid g (pos n) = (solid_holds g n all).0 in
    subst (λ s. IsRelabelled (ranked_names g) s (solid_of (dropped g) n)) (sym (solid_is g n))
    (subst (λ t. IsRelabelled (ranked_names g) (solid_by g n (keys_of g (pos n))) t) (sym (solid_is (dropped g) n))
    (subst (λ keys. IsRelabelled (ranked_names g) (solid_by g n (keys_of g (pos n))) (solid_by (dropped g) n keys)) (sym (keys_new g (pos n) known))
    (by_keys g (keys_of g (pos n)) (edge_keys_all g (pos n) known) (vertex_keys_all g (pos n) known) n known)))
