-- A shell that is taken alone is the shell of its solid, with other numbers of its edges and vertices.
use Rattle.std.specs.Prelude.{◌≡◌, ℕ, ◌<◌, Bool, true, false, ℤ, pos, List, [], ◌∷◌, length, map, flat_map, Option, Some, None, slice_get}
use Rattle.std.specs.Prelude.{if◌then◌else◌}
use Rattle.std.specs.List.{AllZip}
use Rattle.std.proofs.Common.{refl, sym, ◌∙◌, ap, subst, inl, inr}
use Rattle.iges_params.specs.Contents.{Contents}
use Rattle.brep_lists.specs.Record.{LoopTuple}
use Rattle.brep_lists.specs.declared.edge_list.EdgeTuple.{EdgeTuple}
use Rattle.brep_numbering.specs.Keys.{Keys}
use Rattle.brep_numbering.proofs.SameKeys.{edge_sound, edge_itself, vertex_sound, vertex_itself}
use Rattle.brep_walk.specs.Places.{faces, loops, tuples, edge_at, numbers}
use Rattle.brep_walk.specs.SolidOf.{edge_key, vertex_key, edge_named, ends_named, vertices_named, use_by, loop_by, face_by, shell_by, numbered_by, edge_by}
use Rattle.brep_walk.specs.SolidOf.{tuples_in, keys_in, solid_listing}
use Rattle.brep_walk.proofs.Numbered.{EdgesFound, by_key, uses_listed}
use Rattle.solid_data.specs.Ring.{place_of}
use Rattle.solid_data.specs.Obligations.{entry_number}
use Rattle.solid_data.specs.SolidData.{SolidData, shell_uses, shell_edges, shell_vertices, edge_used, ends_of, vertices_used, same_edge, same_vertex}
use Rattle.solid_data.specs.declared.solid.Edge.{Edge}
use Rattle.solid_data.specs.declared.solid.EdgeKey.{EdgeKey}
use Rattle.solid_data.specs.declared.solid.VertexKey.{VertexKey}
use Rattle.solid_data.specs.declared.solid.LoopUse.{LoopUse}
use Rattle.solid_data.specs.declared.solid.LoopUse.TheVariants.{EdgeUse, VertexUse}
use Rattle.solid_data.specs.declared.solid.Shell.{Shell}
use Rattle.solid_data.proofs.Members.{Has, Has-from_Contains, has_left, has_flat_map, from_flat_map, has_map, map_has, get_single}
use Rattle.solid_data.proofs.Keys.{to_distinct, from_distinct, place_below, at_place, one_place}
use Rattle.shell_rules.specs.Closed.{IsClosedShell}
use Rattle.shell_laws.proofs.RenumberedShell.{renumbered_shell}
use Rattle.shell_laws.specs.Renumbered.{Renumbering, renumbered_use, IsRenumberedLoop, IsRenumberedFace, IsRenumberedEdge, IsRenumberedShell, IsRenumbered}

-- ---- a solid of listed shells

module _ (f : Contents) (n : ℕ) (items : List (ℤ × Bool)) (found : EdgesFound f items) where
  abbrev keys : Keys
  keys = keys_in f items

  -- the edge of a key, with the numbers of its ends
  abbrev edge_with : EdgeKey → EdgeTuple → Edge
  edge_with key e = record {
    key = key;
    from = record { 0 = place_of same_vertex keys.vertices (vertex_key e.start_list e.start_index) };
    to = record { 0 = place_of same_vertex keys.vertices (vertex_key e.end_list e.end_index) };
  }

  key_named : (t : LoopTuple) → Has (tuples_in f items) t → t.is_vertex ≡ false → Has keys.edges (edge_key t.«list» t.index)
  key_named t here v =
      let key : EdgeKey = edge_key t.«list» t.index in
      to_distinct same_edge edge_sound (flat_map edge_named (tuples_in f items)) key
      (has_flat_map edge_named (tuples_in f items) t key here (subst (λ b. Has (if b then [] else key ∷ []) key) (sym v) (inl refl)))

  vertex_is_named : (t : LoopTuple) (key : VertexKey) → Has (tuples_in f items) t → Has (vertices_named f t) key → Has keys.vertices key
  vertex_is_named t key here named = to_distinct same_vertex vertex_sound (flat_map (vertices_named f) (tuples_in f items)) key
      (has_flat_map (vertices_named f) (tuples_in f items) t key here named)

  -- the tuple that names the key of an edge
  named_by : (key : EdgeKey) → Has keys.edges key
      → (t : LoopTuple) × Has (tuples_in f items) t × (t.is_vertex ≡ false) × (edge_key t.«list» t.index ≡ key)
  named_by key h =
      let t = from_flat_map edge_named (tuples_in f items) key (from_distinct same_edge (flat_map edge_named (tuples_in f items)) key h) in
      of_tuple t.0 t.1 t.0.is_vertex refl t.2
    where
      of_tuple : (t : LoopTuple) → Has (tuples_in f items) t → (b : Bool) → t.is_vertex ≡ b → Has (if b then [] else edge_key t.«list» t.index ∷ []) key
          → (t : LoopTuple) × Has (tuples_in f items) t × (t.is_vertex ≡ false) × (edge_key t.«list» t.index ≡ key)
      of_tuple t here true v m = absurd m
      of_tuple t here false v (inr m) = absurd m
      of_tuple t here false v (inl same) = (t, here, v, same)

  -- each of them is an edge of the file, whose vertices have numbers
  pub edge_of_key : (key : EdgeKey) → Has keys.edges key
      → (e : EdgeTuple) × (edge_at f (pos key.«list».0) key.index ≡ Some e) × Has keys.vertices (vertex_key e.start_list e.start_index)
      × Has keys.vertices (vertex_key e.end_list e.end_index)
  edge_of_key key h =
      let t = named_by key h in
      let e = found t.0 t.1 t.2 in
      let vs : vertices_named f t.0 ≡ ends_named (Some e.0) =
      ap (λ b. if b then vertex_key t.0.«list» t.0.index ∷ [] else ends_named (edge_at f t.0.«list» (entry_number t.0.index))) t.2 ∙ ap ends_named e.1 in (
        e.0,
        ap (λ (q : EdgeKey). edge_at f (pos q.«list».0) q.index) (sym t.3) ∙ by_key f t.0.«list» (entry_number t.0.index) e.0 e.1,
        vertex_is_named t.0 (vertex_key e.0.start_list e.0.start_index) t.1
            (subst (λ ks. Has ks (vertex_key e.0.start_list e.0.start_index)) (sym vs) (inl refl)),
        vertex_is_named t.0 (vertex_key e.0.end_list e.0.end_index) t.1
            (subst (λ ks. Has ks (vertex_key e.0.end_list e.0.end_index)) (sym vs) (inr (inl refl))),
      )

  edges_are : (solid_listing f n items).edges ≡ flat_map (edge_by f keys) keys.edges
  unfolding solid_listing
  edges_are = refl

  -- the edge stands at the place of its key
  pub edge_there : (key : EdgeKey) (h : Has keys.edges key)
      → slice_get (solid_listing f n items).edges (place_of same_edge keys.edges key) ≡ Some (edge_with key (edge_of_key key h).0)
  edge_there key h =
      let e = edge_of_key key h in
      ap (λ es. slice_get es (place_of same_edge keys.edges key)) edges_are
      ∙ get_single (edge_by f keys) keys.edges (λ k m. ap (λ o. length (numbered_by keys k o)) (edge_of_key k m).1)
      (place_of same_edge keys.edges key) key (edge_with key e.0) (at_place same_edge edge_sound edge_itself keys.edges key h)
      (ap (numbered_by keys key) e.1)

  vertices_are : (solid_listing f n items).vertices ≡ keys.vertices
  unfolding solid_listing
  vertices_are = refl

  pub vertex_below : (key : VertexKey) → Has keys.vertices key → place_of same_vertex keys.vertices key < length (solid_listing f n items).vertices
  vertex_below key h = subst (λ vs. place_of same_vertex keys.vertices key < length vs) (sym vertices_are)
      (place_below same_vertex vertex_itself keys.vertices key h)

-- ---- one of its shells alone

abbrev pub one_item : ℕ → List (ℤ × Bool)
one_item m = (pos m, true) ∷ []

-- the shell as it is taken alone
abbrev pub mine : Contents → ℕ → Shell
mine f m = shell_by f (keys_in f (one_item m)) (pos m, true)

abbrev number_of_edge : List EdgeKey → Option EdgeKey → ℕ
number_of_edge all None = 0
number_of_edge all (Some key) = place_of same_edge all key

abbrev number_of_vertex : List VertexKey → Option VertexKey → ℕ
number_of_vertex all None = 0
number_of_vertex all (Some key) = place_of same_vertex all key

module _ (f : Contents) (n : ℕ) (items : List (ℤ × Bool)) (m : ℕ) (flag : Bool) (found : EdgesFound f items) (listed : Has items (pos m, flag)) where
  abbrev one : List (ℤ × Bool)
  one = one_item m

  abbrev here : Keys
  here = keys_in f one

  abbrev there : Keys
  there = keys_in f items

  abbrev s : SolidData
  s = solid_listing f m one

  abbrev t : SolidData
  t = solid_listing f n items

  abbrev whole : Shell
  whole = shell_by f there (pos m, true)

  abbrev numbering : Renumbering
  numbering = record {
    edge = λ e. number_of_edge there.edges (slice_get here.edges e);
    vertex = λ v. number_of_vertex there.vertices
        (slice_get here.vertices v);
  }

  -- the tuples of the shell are tuples of the solid
  tuple_there : (u : LoopTuple) → Has (tuples_in f one) u → Has (tuples_in f items) u
  tuple_there u h =
      let l = from_flat_map (tuples f) (flat_map (loops f) (flat_map (λ z. numbers (faces f z)) (numbers one))) u h in
      let c = from_flat_map (loops f) (flat_map (λ z. numbers (faces f z)) (numbers one)) l.0 l.1 in
      let z = from_flat_map (λ z. numbers (faces f z)) (numbers one) c.0 c.1 in
      has_flat_map (tuples f) (flat_map (loops f) (flat_map (λ z. numbers (faces f z)) (numbers items))) l.0 u
      (has_flat_map (loops f) (flat_map (λ z. numbers (faces f z)) (numbers items)) c.0 l.0
      (has_flat_map (λ z. numbers (faces f z)) (numbers items) z.0 c.0 (number_there z.0 z.1) z.2) c.2) l.2
    where
      number_there : (z : ℤ) → Has (numbers one) z → Has (numbers items) z
      number_there z (inl e) = subst (Has (numbers items)) e (map_has (λ (i : ℤ × Bool). i.0) items (pos m, flag) listed)
      number_there z (inr k) = absurd k

  found_here : EdgesFound f one
  found_here u h v = found u (tuple_there u h) v

  edge_key_there : (key : EdgeKey) → Has here.edges key → Has there.edges key
  edge_key_there key h =
      let u = from_flat_map edge_named (tuples_in f one) key (from_distinct same_edge (flat_map edge_named (tuples_in f one)) key h) in
      to_distinct same_edge edge_sound (flat_map edge_named (tuples_in f items)) key
      (has_flat_map edge_named (tuples_in f items) u.0 key (tuple_there u.0 u.1) u.2)

  vertex_key_there : (key : VertexKey) → Has here.vertices key → Has there.vertices key
  vertex_key_there key h =
      let u = from_flat_map (vertices_named f) (tuples_in f one) key (from_distinct same_vertex (flat_map (vertices_named f) (tuples_in f one)) key h) in
      vertex_is_named f n items found u.0 key (tuple_there u.0 u.1) u.2

  edge_number : (key : EdgeKey) → Has here.edges key → numbering.edge (place_of same_edge here.edges key) ≡ place_of same_edge there.edges key
  edge_number key h = ap (number_of_edge there.edges) (at_place same_edge edge_sound edge_itself here.edges key h)

  vertex_number : (key : VertexKey) → Has here.vertices key → numbering.vertex (place_of same_vertex here.vertices key)
      ≡ place_of same_vertex there.vertices key
  vertex_number key h = ap (number_of_vertex there.vertices) (at_place same_vertex vertex_sound vertex_itself here.vertices key h)

  -- ---- faces and loops

  use_as : (u : LoopTuple) → Has (tuples_in f one) u → use_by there u ≡ renumbered_use numbering (use_by here u)
  use_as u h = by_case u.is_vertex refl
    where
      pick : Keys → Bool → LoopUse
      pick k b = if b then VertexUse (record { 0 = place_of same_vertex k.vertices (vertex_key u.«list» u.index) }) else EdgeUse
          (record { 0 = place_of same_edge k.edges (edge_key u.«list» u.index) }) u.flag

      of_case : (b : Bool) → u.is_vertex ≡ b → pick there b ≡ renumbered_use numbering (pick here b)
      of_case true v =
          let named : Has here.vertices (vertex_key u.«list» u.index) = vertex_is_named f m one found_here u (vertex_key u.«list» u.index) h
          (subst (λ b. Has (if b then vertex_key u.«list» u.index ∷ [] else ends_named (edge_at f u.«list» (entry_number u.index)))
          (vertex_key u.«list» u.index))
          (sym v) (inl refl)) in
          ap (λ k. VertexUse (record { 0 = k })) (sym (vertex_number (vertex_key u.«list» u.index) named))
      of_case false v = ap (λ k. EdgeUse (record { 0 = k }) u.flag) (sym (edge_number (edge_key u.«list» u.index) (key_named f m one found_here u h v)))

      by_case : (b : Bool) → u.is_vertex ≡ b → pick there u.is_vertex ≡ renumbered_use numbering (pick here u.is_vertex)
      by_case b v = of_case u.is_vertex refl

  uses_as : (us : List LoopTuple) → ((u : LoopTuple) → Has us u → Has (tuples_in f one) u)
      → map (use_by there) us ≡ map (renumbered_use numbering) (map (use_by here) us)
  uses_as [] h = refl
  uses_as (u ∷ us) h = λ i. use_as u (h u (inl refl)) i ∷ uses_as us (λ w k. h w (inr k)) i

  loops_as : (ls : List ℤ) → ((l : ℤ) → Has ls l → (u : LoopTuple) → Has (tuples f l) u → Has (tuples_in f one) u)
      → AllZip (IsRenumberedLoop numbering) (map (loop_by f here) ls) (map (loop_by f there) ls)
  loops_as [] h = tt
  loops_as (l ∷ ls) h = (uses_as (tuples f l) (h l (inl refl)), loops_as ls (λ k g. h k (inr g)))

  faces_as : (cs : List (ℤ × Bool)) → ((c : ℤ × Bool) → Has cs c → (l : ℤ) → Has (loops f c.0) l → (u : LoopTuple) → Has (tuples f l) u
      → Has (tuples_in f one) u)
      → AllZip (IsRenumberedFace numbering) (map (face_by f here) cs) (map (face_by f there) cs)
  faces_as [] h = tt
  faces_as (c ∷ cs) h = (record { flag = refl; loops = loops_as (loops f c.0) (h c (inl refl)) }, faces_as cs (λ d k. h d (inr k)))

  in_shell : (c : ℤ × Bool) → Has (faces f (pos m)) c → (l : ℤ) → Has (loops f c.0) l → (u : LoopTuple) → Has (tuples f l) u → Has (tuples_in f one) u
  in_shell c in_c l in_l u in_u =
      has_flat_map (tuples f) (flat_map (loops f) (flat_map (λ z. numbers (faces f z)) (numbers one))) l u
      (has_flat_map (loops f) (flat_map (λ z. numbers (faces f z)) (numbers one)) c.0 l
      (has_flat_map (λ z. numbers (faces f z)) (numbers one) (pos m) c.0 (inl refl) (map_has (λ (i : ℤ × Bool). i.0) (faces f (pos m)) c in_c)) in_l) in_u

  shell_as : IsRenumberedShell numbering (mine f m) whole
  shell_as = record { flag = refl; faces = faces_as (faces f (pos m)) in_shell }

  -- ---- what the shell uses

  shell_is : s.shells ≡ (mine f m) ∷ []
  unfolding solid_listing
  shell_is = refl

  use_named : (u : LoopUse) → Has (shell_uses (mine f m)) u → (x : LoopTuple) × Has (tuples_in f one) x × (use_by here x ≡ u)
  use_named u h =
      has_map (use_by here) (tuples_in f one) u
      (subst (λ us. Has us u) (ap (flat_map shell_uses) (sym shell_is) ∙ uses_listed f m one) (has_left (shell_uses (mine f m)) [] u h))

  edge_used_has_key : (e : ℕ) → Has (shell_edges (mine f m)) e → (key : EdgeKey) × Has here.edges key × (place_of same_edge here.edges key ≡ e)
  edge_used_has_key e h =
      let u = from_flat_map edge_used (shell_uses (mine f m)) e h in
      let x = use_named u.0 u.1 in
      of_tuple x.0 x.1 x.0.is_vertex refl (subst (λ w. Has (edge_used w) e) (sym x.2) u.2)
    where
      of_tuple : (x : LoopTuple) → Has (tuples_in f one) x → (b : Bool) → x.is_vertex ≡ b → Has (edge_used (use_by here x)) e
          → (key : EdgeKey) × Has here.edges key × (place_of same_edge here.edges key ≡ e)
      of_tuple x h b v used = by_case b v (subst (λ c. Has (edge_used (pick c)) e) v used)
        where
          pick : Bool → LoopUse
          pick c = if c then VertexUse (record { 0 = place_of same_vertex here.vertices (vertex_key x.«list» x.index) }) else EdgeUse
              (record { 0 = place_of same_edge here.edges (edge_key x.«list» x.index) }) x.flag

          by_case : (c : Bool) → x.is_vertex ≡ c → Has (edge_used (pick c)) e → (key : EdgeKey) × Has here.edges key × (place_of same_edge here.edges key ≡ e)
          by_case true v k = absurd k
          by_case false v (inr k) = absurd k
          by_case false v (inl same) = (edge_key x.«list» x.index, key_named f m one found_here x h v, same)

  vertex_used_has_key : (w : ℕ) → Has (shell_vertices s (mine f m)) w → (key : VertexKey) × Has here.vertices key × (place_of same_vertex here.vertices key ≡ w)
  vertex_used_has_key w h =
      let u = from_flat_map (vertices_used s) (shell_uses (mine f m)) w h in
      let x = use_named u.0 u.1 in
      of_tuple x.0 x.1 x.0.is_vertex refl (subst (λ y. Has (vertices_used s y) w) (sym x.2) u.2)
    where
      of_ends : (e : EdgeTuple) (key : EdgeKey) → Has here.vertices (vertex_key e.start_list e.start_index)
          → Has here.vertices (vertex_key e.end_list e.end_index)
          → Has (ends_of (Some (edge_with f m one found_here key e))) w
          → (key : VertexKey) × Has here.vertices key × (place_of same_vertex here.vertices key ≡ w)
      of_ends e key a b (inl same) = (vertex_key e.start_list e.start_index, a, same)
      of_ends e key a b (inr (inl same)) = (vertex_key e.end_list e.end_index, b, same)
      of_ends e key a b (inr (inr k)) = absurd k

      of_tuple : (x : LoopTuple) → Has (tuples_in f one) x → (b : Bool) → x.is_vertex ≡ b → Has (vertices_used s (use_by here x)) w
          → (key : VertexKey) × Has here.vertices key × (place_of same_vertex here.vertices key ≡ w)
      of_tuple x h b v used = by_case b v (subst (λ c. Has (vertices_used s (pick c)) w) v used)
        where
          pick : Bool → LoopUse
          pick c = if c then VertexUse (record { 0 = place_of same_vertex here.vertices (vertex_key x.«list» x.index) }) else EdgeUse
              (record { 0 = place_of same_edge here.edges (edge_key x.«list» x.index) }) x.flag

          by_case : (c : Bool) → x.is_vertex ≡ c → Has (vertices_used s (pick c)) w
              → (key : VertexKey) × Has here.vertices key × (place_of same_vertex here.vertices key ≡ w)
          by_case true v (inr k) = absurd k
          by_case true v (inl same) = (
            vertex_key x.«list» x.index,
            vertex_is_named f m one found_here x (vertex_key x.«list» x.index) h
                (subst (λ b. Has (if b then vertex_key x.«list» x.index ∷ [] else ends_named (edge_at f x.«list» (entry_number x.index)))
                (vertex_key x.«list» x.index))
                (sym v) (inl refl)),
            same,
          )
          by_case false v k =
              let key : EdgeKey = edge_key x.«list» x.index in
              let named = key_named f m one found_here x h v in
              let e = edge_of_key f m one found_here key named in
              of_ends e.0 key e.2 e.3 (subst (λ o. Has (ends_of o) w) (edge_there f m one found_here key named) k)

  -- ---- one shell in both

  edge_in_both : (e : ℕ) → Has (shell_edges (mine f m)) e
      → (x y : Edge) × (slice_get s.edges e ≡ Some x) × (slice_get t.edges (numbering.edge e) ≡ Some y) × IsRenumberedEdge numbering x y
  edge_in_both e h =
      let k = edge_used_has_key e h in
      let key : EdgeKey = k.0 in
      let far = edge_key_there key k.1 in
      let x = edge_of_key f m one found_here key k.1 in
      let y = edge_of_key f n items found key far in
      let same : x.0 ≡ y.0 = same_edge_at x.0 y.0 (sym x.1 ∙ y.1) in (
        edge_with f m one found_here key x.0,
        edge_with f n items found key y.0,
        ap (slice_get s.edges) (sym k.2) ∙ edge_there f m one found_here key k.1,
        ap (slice_get t.edges) (ap numbering.edge (sym k.2) ∙ edge_number key k.1) ∙ edge_there f n items found key far,
        record {
          from = ap (λ (z : EdgeTuple). place_of same_vertex there.vertices (vertex_key z.start_list z.start_index)) (sym same)
              ∙ sym (vertex_number (vertex_key x.0.start_list x.0.start_index) x.2);
          to = ap (λ (z : EdgeTuple). place_of same_vertex there.vertices (vertex_key z.end_list z.end_index)) (sym same)
              ∙ sym (vertex_number (vertex_key x.0.end_list x.0.end_index) x.3);
        },
      )
    where
      same_edge_at : (x y : EdgeTuple) → Some x ≡ Some y → x ≡ y
      same_edge_at x y e = cc

  alone_is_renumbered : IsRenumbered numbering s t (mine f m) whole
  alone_is_renumbered = record {
    shell = shell_as;
    edges = λ e c. edge_in_both e (Has-from_Contains (shell_edges (mine f m)) e c);
    vertices = λ v c.
        let k = vertex_used_has_key v (Has-from_Contains (shell_vertices s (mine f m)) v c) in (
          subst (λ w. w < length s.vertices) k.2 (vertex_below f m one found_here k.0 k.1),
          subst (λ w. w < length t.vertices) (sym (vertex_number k.0 k.1) ∙ ap numbering.vertex k.2)
              (vertex_below f n items found k.0 (vertex_key_there k.0 k.1)),
        );
    edges_apart = λ d e c g same.
        let j = edge_used_has_key d (Has-from_Contains (shell_edges (mine f m)) d c) in
        let k = edge_used_has_key e (Has-from_Contains (shell_edges (mine f m)) e g) in
        let one_key : j.0 ≡ k.0 = one_place same_edge edge_sound edge_itself there.edges j.0 k.0 (edge_key_there j.0 j.1) (edge_key_there k.0 k.1)
        (sym (edge_number j.0 j.1) ∙ (ap numbering.edge j.2 ∙ (same ∙ (ap numbering.edge (sym k.2) ∙ edge_number k.0 k.1)))) in
        sym j.2 ∙ (ap (place_of same_edge here.edges) one_key ∙ k.2);
    vertices_apart = λ v w c g same.
        let j = vertex_used_has_key v (Has-from_Contains (shell_vertices s (mine f m)) v c) in
        let k = vertex_used_has_key w (Has-from_Contains (shell_vertices s (mine f m)) w g) in
        let one_key : j.0 ≡ k.0 = one_place same_vertex vertex_sound vertex_itself there.vertices j.0 k.0 (vertex_key_there j.0 j.1) (vertex_key_there k.0 k.1)
        (sym (vertex_number j.0 j.1) ∙ (ap numbering.vertex j.2 ∙ (same ∙ (ap numbering.vertex (sym k.2) ∙ vertex_number k.0 k.1)))) in
        sym j.2 ∙ (ap (place_of same_vertex here.vertices) one_key ∙ k.2);
  }

  -- So it is closed alone where it is closed in the solid.
  pub closed_alone : (k : ℕ) → IsClosedShell t k whole → IsClosedShell s 0 (mine f m)
  closed_alone k closed = renumbered_shell numbering s t k (mine f m) whole alone_is_renumbered closed
