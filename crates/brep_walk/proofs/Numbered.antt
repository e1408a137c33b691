-- The ids of a file's solid are numbered by first appearance.
use Rattle.std.specs.Prelude.{◌≡◌, ◌≢◌, ℕ, zero, suc, ◌+◌, ◌==◌, ◌⊎◌, Bool, true, false, not, cond, ℤ, pos, negsuc, List, [], ◌∷◌, ◌++◌, length, map}
use Rattle.std.specs.Prelude.{flat_map, filter, Some, slice_get, if◌then◌else◌}
use Rattle.std.specs.List.{enumerate_from}
use Rattle.std.proofs.Common.{refl, sym, ◌∙◌, ap, subst, arith, inl, inr}
use Rattle.std.proofs.lemmas.Bool.{eq-eqb}
use Rattle.std.proofs.lemmas.Bool.Decides.{eqb_tells}
use Rattle.std.proofs.lemmas.List.{map-append}
use Rattle.std.proofs.lemmas.Grind.{flat_map-append}
use Rattle.std.proofs.lemmas.Option.{same_Some, none-some}
use Rattle.iges_params.specs.Contents.{Contents}
use Rattle.brep_lists.specs.Record.{LoopTuple}
use Rattle.brep_lists.specs.declared.edge_list.EdgeTuple.{EdgeTuple}
use Rattle.brep_walk.specs.Places.{shells, faces, loops, tuples, edge_at, numbers}
use Rattle.brep_numbering.specs.Keys.{Keys}
use Rattle.brep_walk.specs.SolidOf.{edge_key, vertex_key, all_tuples, edge_named, ends_named, vertices_named, use_by, loop_by, face_by, shell_by, numbered_by}
use Rattle.brep_walk.specs.SolidOf.{edge_by, keys_of, use_of, solid_of, tuples_in, edges_in, vertices_in, keys_in, solid_listing}
use Rattle.solid_data.specs.Ring.{distinct, place_of, numbers_from}
use Rattle.solid_data.specs.Obligations.{entry_number}
use Rattle.solid_data.specs.Numbering.{InOrderOfAppearance}
use Rattle.solid_data.specs.SolidData.{PlacedLoop, placed_in_face, shell_uses, shell_edges, shell_vertices, edge_used, ends_of, vertices_used, same_edge}
use Rattle.solid_data.specs.SolidData.{same_vertex}
use Rattle.solid_data.specs.declared.solid.Edge.{Edge}
use Rattle.solid_data.specs.declared.solid.EdgeKey.{EdgeKey}
use Rattle.solid_data.specs.declared.solid.VertexKey.{VertexKey}
use Rattle.solid_data.specs.declared.solid.Loop.{Loop}
use Rattle.solid_data.specs.declared.solid.LoopUse.{LoopUse}
use Rattle.solid_data.specs.declared.solid.LoopUse.TheVariants.{EdgeUse, VertexUse}
use Rattle.solid_data.proofs.Members.{from_flat_map, Has, has_flat_map, length-singles, get_single}
use Rattle.solid_data.proofs.Keys.{from_filter, to_distinct, from_distinct, at_place}
use Rattle.brep_numbering.proofs.SameKeys.{edge_sound, edge_itself, vertex_sound, vertex_itself}

-- Places in the list of keys, without repeats, are 0, 1, 2 and so on.

module _ {A : Type 0} (same : A → A → Bool) (sound : (a b : A) → same a b ≡ true → a ≡ b) (itself : (a : A) → same a a ≡ true) where
  place_tells : (keys : List A) (a b : A) → Has keys a → Has keys b → (place_of same keys a == place_of same keys b) ≡ same a b
  place_tells keys a b h k = by_test (same a b) refl (eqb_tells (place_of same keys a) (place_of same keys b))
    where
      by_test : (t : Bool) → same a b ≡ t
          → (((place_of same keys a == place_of same keys b) ≡ true) × (place_of same keys a ≡ place_of same keys b))
          ⊎ (((place_of same keys a == place_of same keys b) ≡ false) × (place_of same keys a ≢ place_of same keys b))
          → (place_of same keys a == place_of same keys b) ≡ t
      by_test true e tells = eq-eqb (place_of same keys a) (place_of same keys b) (ap (place_of same keys) (sound a b e))
      by_test false e (inl p) =
          let one : a ≡ b = same_Some a b (sym (at_place same sound itself keys a h) ∙ (ap (slice_get keys) p.1 ∙ at_place same sound itself keys b k)) in
          absurd (true_is_false (sym (ap (same a) (sym one) ∙ itself a) ∙ e))
        where
          true_is_false : true ≡ false → ⊥
          true_is_false w = cc
      by_test false e (inr p) = p.0

  filter_of_map : (g : A → ℕ) (n : ℕ) (x : A) (xs : List A) → ((a : A) → Has xs a → (n == g a) ≡ same x a)
      → filter (λ y. not (n == y)) (map g xs) ≡ map g (filter (λ y. not (same x y)) xs)
  filter_of_map g n x [] agree = refl
  filter_of_map g n x (y ∷ xs) agree =
      let rest = filter_of_map g n x xs (λ a m. agree a (inr m)) in
      ap (λ b. cond (not b) (g y ∷ filter (λ z. not (n == z)) (map g xs)) (filter (λ z. not (n == z)) (map g xs))) (agree y (inl refl))
      ∙ (ap (λ zs. cond (not (same x y)) (g y ∷ zs) zs) rest ∙ sym (map_cond g (not (same x y)) y (filter (λ z. not (same x z)) xs)))
    where
      map_cond : (g : A → ℕ) (b : Bool) (y : A) (zs : List A) → map g (cond b (y ∷ zs) zs) ≡ cond b (g y ∷ map g zs) (map g zs)
      map_cond g true y zs = refl
      map_cond g false y zs = refl

  distinct_of_map : (g : A → ℕ) (xs : List A) → ((a b : A) → Has xs a → Has xs b → (g a == g b) ≡ same a b)
      → distinct ◌==◌ (map g xs) ≡ map g (distinct same xs)
  distinct_of_map g [] agree = refl
  distinct_of_map g (x ∷ xs) agree =
      let rest = distinct_of_map g xs (λ a b m k. agree a b (inr m) (inr k)) in
      ap (λ zs. g x ∷ zs)
      (ap (filter (λ y. not (g x == y))) rest
      ∙ filter_of_map g (g x) x (distinct same xs) (λ a m. agree x a (inl refl) (inr (from_distinct same xs a m))))

  map_suc : (base n : ℕ) → map suc (numbers_from base n) ≡ numbers_from (base + 1) n
  map_suc base zero = refl
  map_suc base (suc n) = let e : suc base ≡ base + 1 = omega arith in ap (λ z. z ∷ map suc (numbers_from (base + 1) n)) e
      ∙ ap (λ zs. (base + 1) ∷ zs) (map_suc (base + 1) n)

  not_same : (x y : A) (xs : List A) → Has (filter (λ z. not (same x z)) xs) y → same x y ≡ false
  not_same x y [] h = absurd h
  not_same x y (z ∷ xs) h = by_test (same x z) refl h (λ m. not_same x y xs m)
    where
      by_test : (b : Bool) → same x z ≡ b → Has (cond (not b) (z ∷ filter (λ w. not (same x w)) xs) (filter (λ w. not (same x w)) xs)) y
          → (Has (filter (λ w. not (same x w)) xs) y → same x y ≡ false) → same x y ≡ false
      by_test true e m on = on m
      by_test false e (inl is) on = ap (same x) (sym is) ∙ e
      by_test false e (inr m) on = on m

  map_same : (g h : A → ℕ) (xs : List A) → ((a : A) → Has xs a → g a ≡ h a) → map g xs ≡ map h xs
  map_same g h [] e = refl
  map_same g h (x ∷ xs) e = ap (λ z. z ∷ map g xs) (e x (inl refl)) ∙ ap (λ zs. h x ∷ zs) (map_same g h xs (λ a m. e a (inr m)))

  map_map_suc : (g : A → ℕ) (xs : List A) → map (λ a. suc (g a)) xs ≡ map suc (map g xs)
  map_map_suc g [] = refl
  map_map_suc g (x ∷ xs) = ap (λ zs. suc (g x) ∷ zs) (map_map_suc g xs)

  abbrev AreApart : List A → Type 0
  AreApart [] = Unit {0}
  AreApart (x ∷ xs) = ((a : A) → Has xs a → same a x ≡ false) × AreApart xs

  places_of_apart : (keys : List A) → AreApart keys → map (place_of same keys) keys ≡ numbers_from 0 (length keys)
  places_of_apart [] h = refl
  places_of_apart (k ∷ keys) h =
      let first : place_of same (k ∷ keys) k ≡ 0 = ap (λ b. if b then 0 else suc (place_of same keys k)) (itself k) in
      let later : map (place_of same (k ∷ keys)) keys ≡ map (λ a. suc (place_of same keys a)) keys =
      map_same (place_of same (k ∷ keys)) (λ a. suc (place_of same keys a)) keys (λ a m. ap (λ b. if b then 0 else suc (place_of same keys a)) (h.0 a m)) in
      ap (λ z. z ∷ map (place_of same (k ∷ keys)) keys) first
      ∙ ap (λ zs. 0 ∷ zs) (later ∙ (map_map_suc (place_of same keys) keys ∙ (ap (map suc) (places_of_apart keys h.1) ∙ map_suc 0 (length keys))))

  filter_apart : (p : A → Bool) (xs : List A) → AreApart xs → AreApart (filter p xs)
  filter_apart p [] h = tt
  filter_apart p (x ∷ xs) h = by_test (p x) (filter_apart p xs h.1)
    where
      by_test : (b : Bool) → AreApart (filter p xs) → AreApart (cond b (x ∷ filter p xs) (filter p xs))
      by_test true k = ((λ a m. h.0 a (from_filter p xs a m)), k)
      by_test false k = k

  symmetric : (a b : A) → same a b ≡ false → same b a ≡ false
  symmetric a b e = by_test (same b a) refl
    where
      by_test : (t : Bool) → same b a ≡ t → same b a ≡ false
      by_test false k = k
      by_test true k = absurd (true_is_false (sym (ap (same a) (sound b a k) ∙ itself a) ∙ e))
        where
          true_is_false : true ≡ false → ⊥
          true_is_false w = cc

  distinct_apart : (xs : List A) → AreApart (distinct same xs)
  distinct_apart [] = tt
  distinct_apart (x ∷ xs) =
      ((λ a m. symmetric x a (not_same x a (distinct same xs) m)), filter_apart (λ y. not (same x y)) (distinct same xs) (distinct_apart xs))

  -- The places of the keys of a list, in the list of keys without repeats, are in order of appearance.
  pub places_in_order : (xs : List A) → InOrderOfAppearance (map (place_of same (distinct same xs)) xs) (length (distinct same xs))
  places_in_order xs =
      let keys : List A = distinct same xs in
      distinct_of_map (place_of same keys) xs (λ a b h k. place_tells keys a b (to_distinct same sound xs a h) (to_distinct same sound xs b k))
      ∙ places_of_apart keys (distinct_apart xs)

-- The uses of all shells are those of all tuples.

uses_of_loops : (f : Contents) (keys : Keys) (mk : ℕ × Loop → PlacedLoop) → ((l : ℕ × Loop) → (mk l).loop ≡ l.1) → (base : ℕ) (ls : List ℤ)
    → flat_map (λ (p : PlacedLoop). p.loop.uses) (map mk (enumerate_from base (map (loop_by f keys) ls))) ≡ map (use_by keys) (flat_map (tuples f) ls)
uses_of_loops f keys mk same base [] = refl
uses_of_loops f keys mk same base (l ∷ ls) =
    let here : (mk (base, loop_by f keys l)).loop.uses ≡ map (use_by keys) (tuples f l) = ap (λ (x : Loop). x.uses) (same (base, loop_by f keys l)) in
    ap (λ us. us ++ flat_map (λ (p : PlacedLoop). p.loop.uses) (map mk (enumerate_from (base + 1) (map (loop_by f keys) ls)))) here
    ∙ (ap (λ us. map (use_by keys) (tuples f l) ++ us) (uses_of_loops f keys mk same (base + 1) ls)
    ∙ sym (map-append (use_by keys) (tuples f l) (flat_map (tuples f) ls)))

uses_of_faces : (f : Contents) (keys : Keys) (flag : Bool) (base : ℕ) (items : List (ℤ × Bool))
    → flat_map (λ (p : PlacedLoop). p.loop.uses) (flat_map (placed_in_face flag) (enumerate_from base (map (face_by f keys) items)))
    ≡ map (use_by keys) (flat_map (tuples f) (flat_map (loops f) (numbers items)))
uses_of_faces f keys flag base [] = refl
uses_of_faces f keys flag base (item ∷ items) =
    let rest : List PlacedLoop = flat_map (placed_in_face flag) (enumerate_from (base + 1) (map (face_by f keys) items)) in
    let mine : List PlacedLoop = placed_in_face flag (base, face_by f keys item) in
    flat_map-append (λ (p : PlacedLoop). p.loop.uses) mine rest
    ∙ (ap (λ us. us ++ flat_map (λ (p : PlacedLoop). p.loop.uses) rest) (uses_of_loops f keys _ (λ l. refl) 0 (loops f item.0))
    ∙ (ap (λ us. map (use_by keys) (flat_map (tuples f) (loops f item.0)) ++ us) (uses_of_faces f keys flag (base + 1) items)
    ∙ (sym (map-append (use_by keys) (flat_map (tuples f) (loops f item.0)) (flat_map (tuples f) (flat_map (loops f) (numbers items))))
    ∙ ap (map (use_by keys)) (sym (flat_map-append (tuples f) (loops f item.0) (flat_map (loops f) (numbers items)))))))

uses_of_shells : (f : Contents) (keys : Keys) (items : List (ℤ × Bool))
    → flat_map shell_uses (map (shell_by f keys) items)
    ≡ map (use_by keys) (flat_map (tuples f) (flat_map (loops f) (flat_map (λ s. numbers (faces f s)) (numbers items))))
uses_of_shells f keys [] = refl
uses_of_shells f keys (item ∷ items) =
    let mine : List ℤ = numbers (faces f item.0) in
    let rest : List ℤ = flat_map (λ s. numbers (faces f s)) (numbers items) in
    ap (λ us. us ++ flat_map shell_uses (map (shell_by f keys) items)) (uses_of_faces f keys item.1 0 (faces f item.0))
    ∙ (ap (λ us. map (use_by keys) (flat_map (tuples f) (flat_map (loops f) mine)) ++ us) (uses_of_shells f keys items)
    ∙ (sym (map-append (use_by keys) (flat_map (tuples f) (flat_map (loops f) mine)) (flat_map (tuples f) (flat_map (loops f) rest)))
    ∙ ap (map (use_by keys))
    (sym (ap (flat_map (tuples f)) (flat_map-append (loops f) mine rest) ∙ flat_map-append (tuples f) (flat_map (loops f) mine)
    (flat_map (loops f) rest)))))

pub all_uses : (f : Contents) (n : ℕ) → flat_map shell_uses (solid_of f n).shells ≡ map (use_of f (pos n)) (all_tuples f (pos n))
unfolding solid_of
all_uses f n = uses_of_shells f (keys_of f (pos n)) (shells f (pos n))

pub uses_listed : (f : Contents) (n : ℕ) (items : List (ℤ × Bool)) → flat_map shell_uses (solid_listing f n items).shells
    ≡ map (use_by (keys_in f items)) (tuples_in f items)
unfolding solid_listing
uses_listed f n items = uses_of_shells f (keys_in f items) items

pub flat_flat : {A B C : Type 0} (g : A → List B) (h : B → List C) (xs : List A) → flat_map (λ x. flat_map h (g x)) xs ≡ flat_map h (flat_map g xs)
flat_flat g h [] = refl
flat_flat g h (x ∷ xs) = ap (λ zs. flat_map h (g x) ++ zs) (flat_flat g h xs) ∙ sym (flat_map-append h (g x) (flat_map g xs))

-- The edges.

edges_used : (f : Contents) (items : List (ℤ × Bool)) (ts : List LoopTuple) → flat_map edge_used (map (use_by (keys_in f items)) ts)
    ≡ map (place_of same_edge (edges_in f items)) (flat_map edge_named ts)
edges_used f items [] = refl
edges_used f items (t ∷ ts) =
    ap (λ zs. edge_used (use_by (keys_in f items) t) ++ zs) (edges_used f items ts)
    ∙ (ap (λ zs. zs ++ map (place_of same_edge (edges_in f items)) (flat_map edge_named ts)) (one t.is_vertex)
    ∙ sym (map-append (place_of same_edge (edges_in f items)) (edge_named t) (flat_map edge_named ts)))
  where
    one : (b : Bool) → edge_used
        (if b then VertexUse (record { 0 = place_of same_vertex (vertices_in f items) (vertex_key t.«list» t.index) }) else EdgeUse
        (record { 0 = place_of same_edge (edges_in f items) (edge_key t.«list» t.index) }) t.flag)
        ≡ map (place_of same_edge (edges_in f items)) (if b then [] else edge_key t.«list» t.index ∷ [])
    one true = refl
    one false = refl

-- each edge that is used is there
abbrev pub EdgesFound : Contents → List (ℤ × Bool) → Type 0
EdgesFound f items = (t : LoopTuple) → Has (tuples_in f items) t → t.is_vertex ≡ false → (e : EdgeTuple) × (edge_at f t.«list» (entry_number t.index) ≡ Some e)

pub by_key : (f : Contents) (e : ℤ) (j : ℕ) (t : EdgeTuple) → edge_at f e j ≡ Some t → edge_at f (pos (entry_number e)) j ≡ Some t
by_key f (pos n) j t h = h
by_key f (negsuc n) j t h = absurd (none-some t h)

key_found : (f : Contents) (items : List (ℤ × Bool)) → EdgesFound f items → (key : EdgeKey) → Has (edges_in f items) key
    → (e : EdgeTuple) × (edge_at f (pos key.«list».0) key.index ≡ Some e)
key_found f items found key h =
    let t = from_flat_map edge_named (tuples_in f items) key (from_distinct same_edge (flat_map edge_named (tuples_in f items)) key h) in
    of_tuple t.0 t.1 t.0.is_vertex refl t.2
  where
    of_tuple : (t : LoopTuple) → Has (tuples_in f items) t → (b : Bool) → t.is_vertex ≡ b → Has (if b then [] else edge_key t.«list» t.index ∷ []) key
        → (e : EdgeTuple) × (edge_at f (pos key.«list».0) key.index ≡ Some e)
    of_tuple t here true v m = absurd m
    of_tuple t here false v (inr m) = absurd m
    of_tuple t here false v (inl same) =
        let e = found t here v in
        (e.0, ap (λ (q : EdgeKey). edge_at f (pos q.«list».0) q.index) (sym same) ∙ by_key f t.«list» (entry_number t.index) e.0 e.1)

edges_counted : (f : Contents) (items : List (ℤ × Bool)) → EdgesFound f items → length (flat_map (edge_by f (keys_in f items)) (edges_in f items))
    ≡ length (edges_in f items)
edges_counted f items found = length-singles (edge_by f (keys_in f items)) (edges_in f items)
    (λ key m. let e = key_found f items found key m in ap (λ o. length (numbered_by (keys_in f items) key o)) e.1)

edge_count : (f : Contents) (n : ℕ) (items : List (ℤ × Bool))
    → length (solid_listing f n items).edges ≡ length (flat_map (edge_by f (keys_in f items)) (edges_in f items))
unfolding solid_listing
edge_count f n items = refl

-- The edges of a file's solid are numbered by first appearance.
pub edges_in_order : (f : Contents) (n : ℕ) (items : List (ℤ × Bool)) → EdgesFound f items
    → InOrderOfAppearance (flat_map shell_edges (solid_listing f n items).shells) (length (solid_listing f n items).edges)
edges_in_order f n items found =
    let ids : flat_map shell_edges (solid_listing f n items).shells ≡ map (place_of same_edge (edges_in f items)) (flat_map edge_named (tuples_in f items)) =
    flat_flat shell_uses edge_used (solid_listing f n items).shells
    ∙ (ap (flat_map edge_used) (uses_listed f n items) ∙ edges_used f items (tuples_in f items)) in
    ap (distinct ◌==◌) ids
    ∙ (places_in_order same_edge edge_sound edge_itself (flat_map edge_named (tuples_in f items))
    ∙ ap (numbers_from 0) (sym (edge_count f n items ∙ edges_counted f items found)))

-- The vertices.

-- the edge of a key, where it is there
abbrev numbered : Contents → List (ℤ × Bool) → EdgeKey → EdgeTuple → Edge
numbered f items key e = record {
  key = key;
  from = record { 0 = place_of same_vertex (vertices_in f items) (vertex_key e.start_list e.start_index) };
  to = record { 0 = place_of same_vertex (vertices_in f items) (vertex_key e.end_list e.end_index) };
}

edges_of_solid : (f : Contents) (n : ℕ) (items : List (ℤ × Bool)) → (solid_listing f n items).edges ≡ flat_map (edge_by f (keys_in f items)) (edges_in f items)
unfolding solid_listing
edges_of_solid f n items = refl

vertices_one : (f : Contents) (n : ℕ) (items : List (ℤ × Bool)) → EdgesFound f items → (t : LoopTuple) → Has (tuples_in f items) t
    → vertices_used (solid_listing f n items) (use_by (keys_in f items) t) ≡ map (place_of same_vertex (vertices_in f items)) (vertices_named f t)
vertices_one f n items found t here = by_case t.is_vertex refl
  where
    pick : Bool → LoopUse
    pick b = if b then VertexUse (record { 0 = place_of same_vertex (vertices_in f items) (vertex_key t.«list» t.index) }) else EdgeUse
        (record { 0 = place_of same_edge (edges_in f items) (edge_key t.«list» t.index) }) t.flag

    names : Bool → List VertexKey
    names b = if b then vertex_key t.«list» t.index ∷ [] else ends_named (edge_at f t.«list» (entry_number t.index))

    of_case : (b : Bool) → t.is_vertex ≡ b → vertices_used (solid_listing f n items) (pick b) ≡ map (place_of same_vertex (vertices_in f items)) (names b)
    of_case true v = refl
    of_case false v =
        let e = found t here v in
        let key : EdgeKey = edge_key t.«list» t.index in
        let listed : Has (edges_in f items) key = to_distinct same_edge edge_sound (flat_map edge_named (tuples_in f items)) key
        (has_flat_map edge_named (tuples_in f items) t key here (subst (λ c. Has (if c then [] else key ∷ []) key) (sym v) (inl refl))) in
        let there : edge_by f (keys_in f items) key ≡ numbered f items key e.0 ∷ [] =
        ap (numbered_by (keys_in f items) key) (by_key f t.«list» (entry_number t.index) e.0 e.1) in
        let got : slice_get (solid_listing f n items).edges (place_of same_edge (edges_in f items) key) ≡ Some (numbered f items key e.0) =
        ap (λ es. slice_get es (place_of same_edge (edges_in f items) key)) (edges_of_solid f n items)
        ∙ get_single (edge_by f (keys_in f items)) (edges_in f items)
        (λ k m. let d = key_found f items found k m in ap (λ o. length (numbered_by (keys_in f items) k o)) d.1)
        (place_of same_edge (edges_in f items) key) key (numbered f items key e.0) (at_place same_edge edge_sound edge_itself (edges_in f items) key listed)
        there in
        ap ends_of got ∙ sym (ap (λ o. map (place_of same_vertex (vertices_in f items)) (ends_named o)) e.1)

    by_case : (b : Bool) → t.is_vertex ≡ b → vertices_used (solid_listing f n items) (pick t.is_vertex) ≡ map (place_of same_vertex (vertices_in f items))
        (names t.is_vertex)
    by_case b v = of_case t.is_vertex refl

all_vertices : (f : Contents) (n : ℕ) (items : List (ℤ × Bool)) (ts : List LoopTuple)
    → ((t : LoopTuple) → Has ts t → vertices_used (solid_listing f n items) (use_by (keys_in f items) t) ≡ map (place_of same_vertex (vertices_in f items))
    (vertices_named f t))
    → flat_map (vertices_used (solid_listing f n items)) (map (use_by (keys_in f items)) ts) ≡ map (place_of same_vertex (vertices_in f items))
    (flat_map (vertices_named f) ts)
all_vertices f n items [] each = refl
all_vertices f n items (t ∷ ts) each =
    ap (λ zs. zs ++ flat_map (vertices_used (solid_listing f n items)) (map (use_by (keys_in f items)) ts)) (each t (inl refl))
    ∙ (ap (λ zs. map (place_of same_vertex (vertices_in f items)) (vertices_named f t) ++ zs) (all_vertices f n items ts (λ u m. each u (inr m)))
    ∙ sym (map-append (place_of same_vertex (vertices_in f items)) (vertices_named f t) (flat_map (vertices_named f) ts)))

vertices_of_solid : (f : Contents) (n : ℕ) (items : List (ℤ × Bool)) → (solid_listing f n items).vertices ≡ vertices_in f items
unfolding solid_listing
vertices_of_solid f n items = refl

-- The vertices of a file's solid are numbered by first appearance.
pub vertices_in_order : (f : Contents) (n : ℕ) (items : List (ℤ × Bool)) → EdgesFound f items
    → InOrderOfAppearance (flat_map (shell_vertices (solid_listing f n items)) (solid_listing f n items).shells) (length (solid_listing f n items).vertices)
vertices_in_order f n items found =
    let ids : flat_map (shell_vertices (solid_listing f n items)) (solid_listing f n items).shells ≡ map (place_of same_vertex (vertices_in f items))
    (flat_map (vertices_named f) (tuples_in f items)) =
    flat_flat shell_uses (vertices_used (solid_listing f n items)) (solid_listing f n items).shells
    ∙ (ap (flat_map (vertices_used (solid_listing f n items))) (uses_listed f n items) ∙ all_vertices f n items (tuples_in f items)
    (vertices_one f n items found)) in
    ap (distinct ◌==◌) ids
    ∙ (places_in_order same_vertex vertex_sound vertex_itself (flat_map (vertices_named f) (tuples_in f items))
    ∙ ap (λ vs. numbers_from 0 (length vs)) (sym (vertices_of_solid f n items)))

-- Keys without repeats.

keep_all : {A : Type 0} (p : A → Bool) (xs : List A) → ((a : A) → Has xs a → p a ≡ true) → filter p xs ≡ xs
keep_all p [] h = refl
keep_all p (x ∷ xs) h = ap (λ b. cond b (x ∷ filter p xs) (filter p xs)) (h x (inl refl)) ∙ ap (λ zs. x ∷ zs) (keep_all p xs (λ a m. h a (inr m)))

apart_distinct : {A : Type 0} (same : A → A → Bool) (sound : (a b : A) → same a b ≡ true → a ≡ b) (itself : (a : A) → same a a ≡ true) (xs : List A)
    → AreApart same sound itself xs → distinct same xs ≡ xs
apart_distinct same sound itself [] h = refl
apart_distinct same sound itself (x ∷ xs) h =
    let rest = apart_distinct same sound itself xs h.1 in
    ap (λ zs. x ∷ filter (λ y. not (same x y)) zs) rest
    ∙ ap (λ zs. x ∷ zs) (keep_all (λ y. not (same x y)) xs (λ a m. ap not (symmetric same sound itself a x (h.0 a m))))

keys_of_edges : (f : Contents) (items : List (ℤ × Bool)) (keys : List EdgeKey)
    → ((key : EdgeKey) → Has keys key → (e : EdgeTuple) × (edge_at f (pos key.«list».0) key.index ≡ Some e))
    → map (λ (e : Edge). e.key) (flat_map (edge_by f (keys_in f items)) keys) ≡ keys
keys_of_edges f items [] h = refl
keys_of_edges f items (key ∷ keys) h =
    let e = h key (inl refl) in
    ap (λ o. map (λ (x : Edge). x.key) (numbered_by (keys_in f items) key o ++ flat_map (edge_by f (keys_in f items)) keys)) e.1
    ∙ ap (λ zs. key ∷ zs) (keys_of_edges f items keys (λ k m. h k (inr m)))

pub edge_keys_differ : (f : Contents) (n : ℕ) (items : List (ℤ × Bool)) → EdgesFound f items
    → distinct same_edge (map (λ (e : Edge). e.key) (solid_listing f n items).edges) ≡ map (λ (e : Edge). e.key) (solid_listing f n items).edges
edge_keys_differ f n items found =
    let keys : map (λ (e : Edge). e.key) (solid_listing f n items).edges ≡ edges_in f items =
    ap (map (λ (e : Edge). e.key)) (edges_of_solid f n items) ∙ keys_of_edges f items (edges_in f items) (key_found f items found) in
    ap (distinct same_edge) keys
    ∙ (apart_distinct same_edge edge_sound edge_itself (edges_in f items)
    (distinct_apart same_edge edge_sound edge_itself (flat_map edge_named (tuples_in f items))) ∙ sym keys)

pub vertex_keys_differ : (f : Contents) (n : ℕ) (items : List (ℤ × Bool)) → distinct same_vertex (solid_listing f n items).vertices
    ≡ (solid_listing f n items).vertices
vertex_keys_differ f n items =
    ap (distinct same_vertex) (vertices_of_solid f n items)
    ∙ (apart_distinct same_vertex vertex_sound vertex_itself (vertices_in f items)
    (distinct_apart same_vertex vertex_sound vertex_itself (flat_map (vertices_named f) (tuples_in f items))) ∙ sym (vertices_of_solid f n items))
