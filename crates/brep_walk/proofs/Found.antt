-- Where the places hold, each edge that is used is there.
use Rattle.std.specs.Prelude.{◌≡◌, ℕ, ◌+◌, ◌-◌, ◌<◌, ◌^◌, IsSomeAnd, Bool, false, ℤ, pos, List, [], ◌∷◌, ◌++◌, length, map, flat_map, Option, Some, None}
use Rattle.std.specs.Prelude.{slice_get, Contains}
use Rattle.std.specs.List.{enumerate_from}
use Rattle.std.proofs.Common.{refl, sym, ◌∙◌, ap, subst, arith, inl, inr}
use Rattle.std.proofs.lemmas.List.{length-map}
use Rattle.std.proofs.lemmas.List.Elements.{All-from_recursion}
use Rattle.iges_fields.specs.declared.value.Value.{Value}
use Rattle.iges_directory.specs.declared.entry.Entry.{Entry}
use Rattle.iges_params.specs.Contents.{Contents}
use Rattle.iges_params.specs.Named.{named, record_values}
use Rattle.brep_lists.specs.Record.{LoopTuple, items_of, IsRecordOf}
use Rattle.brep_lists.specs.declared.entity_kind.EntityKind.TheVariants.{Solid as solid, Shell as shell, Face as face, Loop as «loop», EdgeList as edges}
use Rattle.brep_lists.specs.declared.edge_list.EdgeTuple.{EdgeTuple}
use Rattle.solid_data.specs.Obligations.{Obligation, obligation, AllHold, after_each, entry_number}
use Rattle.solid_data.specs.declared.verdict.Rule.TheVariants.{Twice, BadGeometry}
use Rattle.solid_data.proofs.ObligationLemmas.{AllHold-append_left, AllHold-append_right}
use Rattle.brep_walk.specs.Places.{told, HasRecordOf, shells, faces, loops, tuples, edge_at, numbers, IsIndex, NamesGeometry, record_places, used_places}
use Rattle.brep_walk.specs.Places.{tuple_places, loop_places, face_places, shell_places, places}
use Rattle.brep_walk.specs.SolidOf.{use_by, loop_by, face_by, shell_by, face_of, shell_of, solid_of, keys_in, solid_listing}
use Rattle.solid_data.specs.SolidData.{SolidData, PlacedLoop, placed_in_face, placed_loops}
use Rattle.solid_data.specs.Numbering.{IsNumberedSolid, HasFewParts}
use Rattle.solid_data.specs.declared.solid.FaceUse.{FaceUse}
use Rattle.solid_data.specs.declared.solid.Loop.{Loop}
use Rattle.solid_data.specs.declared.solid.Shell.{Shell}
use Rattle.solid_data.proofs.Members.{from_enumerated, from_flat_map, has_map, Has, All-from, get_some}
use Rattle.brep_walk.proofs.Numbered.{EdgesFound, edges_in_order, vertices_in_order, edge_keys_differ, vertex_keys_differ}

-- the obligations of one item
pub of_item : {A : Type 0} (g : List A → A → List Obligation) (before xs : List A) (x : A) → AllHold (after_each g before xs) → Has xs x
    → (b : List A) × AllHold (g b x)
of_item g before [] x all h = absurd h
of_item g before (y ∷ xs) x all (inl e) =
    (before, subst (λ z. AllHold (g before z)) e (AllHold-append_left (g before y) (after_each g (before ++ y ∷ []) xs) all))
of_item g before (y ∷ xs) x all (inr h) = of_item g (before ++ y ∷ []) xs x (AllHold-append_right (g before y) (after_each g (before ++ y ∷ []) xs) all) h

pub shells_hold : (f : Contents) (n : ℕ) → AllHold (places f n) → (item : ℤ × Bool) → Has (shells f (pos n)) item
    → (b : List (ℤ × Bool)) × AllHold (shell_places f (pos n) b item)
unfolding places
shells_hold f n all item h = of_item (shell_places f (pos n)) [] (shells f (pos n)) item
    (AllHold-append_right (record_places f (pos n) 0 solid (pos n)) (after_each (shell_places f (pos n)) [] (shells f (pos n))) all) h

pub faces_hold : (f : Contents) (n : ℤ) (b : List (ℤ × Bool)) (item : ℤ × Bool) → AllHold (shell_places f n b item) → (c : ℤ × Bool) → Has (faces f item.0) c
    → (u : List ℤ) × (d : List (ℤ × Bool)) × AllHold (face_places f item.0 u d c)
unfolding shell_places
faces_hold f n b item all c h =
    let k = of_item (face_places f item.0 (flat_map (λ x. numbers (faces f x)) (numbers b))) [] (faces f item.0) c
    (AllHold-append_right (record_places f n (length b + 1) shell item.0
    ++ (obligation Twice (entry_number n) (length b + 1) (¬ Contains (numbers b) item.0) ∷ []))
    (after_each (face_places f item.0 (flat_map (λ x. numbers (faces f x)) (numbers b))) [] (faces f item.0)) all) h in
    (flat_map (λ x. numbers (faces f x)) (numbers b), k.0, k.1)

pub loops_hold : (f : Contents) (s : ℤ) (u : List ℤ) (b : List (ℤ × Bool)) (c : ℤ × Bool) → AllHold (face_places f s u b c) → (l : ℤ) → Has (loops f c.0) l
    → (v d : List ℤ) × AllHold (loop_places f c.0 v d l)
unfolding face_places
loops_hold f s u b c all l h =
    let k = of_item (loop_places f c.0 (flat_map (loops f) (u ++ numbers b))) [] (loops f c.0) l
    (AllHold-append_right (record_places f s (length b + 1) face c.0
    ++ (obligation Twice (entry_number s) (length b + 1) (¬ Contains (u ++ numbers b) c.0) ∷ obligation BadGeometry (entry_number c.0) 0
    (let items = told face f c.0 in NamesGeometry f items.surface) ∷ []))
    (after_each (loop_places f c.0 (flat_map (loops f) (u ++ numbers b))) [] (loops f c.0)) all) h in
    (flat_map (loops f) (u ++ numbers b), k.0, k.1)

tuples_hold : (f : Contents) (c : ℤ) (v d : List ℤ) (l : ℤ) → AllHold (loop_places f c v d l) → (t : LoopTuple) → Has (tuples f l) t
    → (b : List LoopTuple) × AllHold (tuple_places f l b t)
unfolding loop_places
tuples_hold f c v d l all t h =
    of_item (tuple_places f l) [] (tuples f l) t
    (AllHold-append_right (record_places f c (length d + 1) «loop» l ++ (obligation Twice (entry_number c) (length d + 1) (¬ Contains (v ++ d) l) ∷ []))
    (after_each (tuple_places f l) [] (tuples f l)) all) h

-- an index that holds finds its item
index_found : (f : Contents) (e j : ℤ) → IsIndex j (length (told edges f e)) → (t : EdgeTuple) × (edge_at f e (entry_number j) ≡ Some t)
index_found f e j (k, is, low, high) =
    let g = get_some (told edges f e) (k - 1) (omega (arith, low, high)) in
    (g.0, ap (λ z. slice_get (told edges f e) (entry_number z - 1)) is ∙ g.1)

tuple_index : (f : Contents) (l : ℤ) (b : List LoopTuple) (t : LoopTuple) → t.is_vertex ≡ false → AllHold (tuple_places f l b t)
    → IsIndex t.index (length (told edges f t.«list»))
unfolding tuple_places
tuple_index f l b t v all =
    let used : AllHold (used_places f l (length b + 1) t.«list» t.index t.is_vertex) = AllHold-append_left _ _ all in
    let edge : AllHold (used_places f l (length b + 1) t.«list» t.index false) = subst (λ c. AllHold (used_places f l (length b + 1) t.«list» t.index c)) v
    used in
    edge.1.1.1.0

-- each of the shells has a record, and its faces hold
abbrev pub AreListed : Contents → List (ℤ × Bool) → Type 0
AreListed f items = (item : ℤ × Bool) → Has items item
    → HasRecordOf shell f item.0 × ((c : ℤ × Bool) → Has (faces f item.0) c → (u : List ℤ) × (d : List (ℤ × Bool)) × AllHold (face_places f item.0 u d c))

-- what one number lists, another that is the same lists
listed_by : {A : Type 0} (list : ℤ → List A) (y z : ℤ) → z ≡ y → (x : A) → Has (list y) x → Has (list z) x
listed_by list y z same x h = subst (λ w. Has (list w) x) (sym same) h

pub edges_found : (f : Contents) (items : List (ℤ × Bool)) → AreListed f items → EdgesFound f items
edges_found f items held t here v =
    let l = from_flat_map (tuples f) (flat_map (loops f) (flat_map (λ s. numbers (faces f s)) (numbers items))) t here in
    let c = from_flat_map (loops f) (flat_map (λ s. numbers (faces f s)) (numbers items)) l.0 l.1 in
    let s = from_flat_map (λ s. numbers (faces f s)) (numbers items) c.0 c.1 in
    let item = has_map (λ (i : ℤ × Bool). i.0) items s.0 s.1 in
    let face_item = has_map (λ (i : ℤ × Bool). i.0) (faces f s.0) c.0 s.2 in
    let a = held item.0 item.1 in
    let in_shell = listed_by (faces f) s.0 item.0.0 item.2 face_item.0 face_item.1 in
    let b = a.1 face_item.0 in_shell in
    let in_face = listed_by (loops f) c.0 face_item.0.0 face_item.2 l.0 c.2 in
    let d = loops_hold f item.0.0 b.0 b.1 face_item.0 b.2 l.0 in_face in
    let e = tuples_hold f face_item.0.0 d.0 d.1 l.0 d.2 t l.2 in
    index_found f t.«list» t.index (tuple_index f l.0 e.0 t v e.1)

-- A record of a shell, a face or a loop has an item.

loop_items : (vs : List Value) → IsRecordOf «loop» vs → 0 < length (items_of «loop» vs)
loop_items [] h = absurd h
loop_items (v ∷ vs) h = h.0.1

shell_items : (vs : List Value) → IsRecordOf shell vs → 0 < length (items_of shell vs)
shell_items [] h = absurd h
shell_items (v ∷ vs) h = h.0.1

face_loops : (vs : List Value) → IsRecordOf face vs → (let items = items_of face vs in 0 < length items.loops)
face_loops [] h = absurd h
face_loops (v ∷ []) h = absurd h.1
face_loops (v ∷ w ∷ vs) h = h.1.0.1

tuples_some : (f : Contents) (l : ℤ) → HasRecordOf «loop» f l → 0 < length (tuples f l)
tuples_some f l h = by_entry (named f l) h
  where
    by_entry : (o : Option (Entry × List Value)) → IsSomeAnd o (λ e. IsRecordOf «loop» e.1) → 0 < length (items_of «loop» (record_values o))
    by_entry None h = absurd h
    by_entry (Some e) h = loop_items e.1 h

faces_some : (f : Contents) (s : ℤ) → HasRecordOf shell f s → 0 < length (faces f s)
faces_some f s h = by_entry (named f s) h
  where
    by_entry : (o : Option (Entry × List Value)) → IsSomeAnd o (λ e. IsRecordOf shell e.1) → 0 < length (items_of shell (record_values o))
    by_entry None h = absurd h
    by_entry (Some e) h = shell_items e.1 h

loops_some : (f : Contents) (c : ℤ) → HasRecordOf face f c → 0 < length (loops f c)
loops_some f c h = by_entry (named f c) h
  where
    by_entry : (o : Option (Entry × List Value)) → IsSomeAnd o (λ e. IsRecordOf face e.1)
        → (let items = items_of face (record_values o) in 0 < length items.loops)
    by_entry None h = absurd h
    by_entry (Some e) h = face_loops e.1 h

pub shell_record : (f : Contents) (n : ℤ) (b : List (ℤ × Bool)) (item : ℤ × Bool) → AllHold (shell_places f n b item) → HasRecordOf shell f item.0
unfolding shell_places
shell_record f n b item all = all.1.1.0

pub face_record : (f : Contents) (s : ℤ) (u : List ℤ) (b : List (ℤ × Bool)) (c : ℤ × Bool) → AllHold (face_places f s u b c) → HasRecordOf face f c.0
unfolding face_places
face_record f s u b c all = all.1.1.0

pub loop_record : (f : Contents) (c : ℤ) (v d : List ℤ) (l : ℤ) → AllHold (loop_places f c v d l) → HasRecordOf «loop» f l
unfolding loop_places
loop_record f c v d l all = all.1.1.0

pub listed_solid : (f : Contents) (n : ℕ) → AllHold (places f n) → AreListed f (shells f (pos n))
listed_solid f n all item m =
    let a = shells_hold f n all item m in
    (shell_record f (pos n) a.0 item a.1, faces_hold f (pos n) a.0 item a.1)

-- the shells, faces and loops of the solid by their records
pub shells_listed : (f : Contents) (n : ℕ) (items : List (ℤ × Bool)) → AreListed f items → (h : Shell) → Has (solid_listing f n items).shells h
    → (item : ℤ × Bool) × Has items item × (shell_by f (keys_in f items) item ≡ h) × (0 < length h.faces)
    × ((c : FaceUse) → Has h.faces c → (d : ℤ × Bool) × (face_by f (keys_in f items) d ≡ c) × (0 < length c.loops)
    × ((l : Loop) → Has c.loops l → 0 < length l.uses))
unfolding solid_listing
shells_listed f n items held h here =
    let i = has_map (shell_by f (keys_in f items)) items h here in
    let a = held i.0 i.1 in
    let many : length (map (face_by f (keys_in f items)) (faces f i.0.0)) ≡ length (faces f i.0.0) = length-map (faces f i.0.0) (face_by f (keys_in f items)) in
    let some : 0 < length (map (face_by f (keys_in f items)) (faces f i.0.0)) = omega (arith, many, faces_some f i.0.0 a.0) in (
      i.0,
      i.1,
      i.2,
      subst (λ (x : Shell). 0 < length x.faces) i.2 some,
      λ c m. of_face i.0 a.1 c (subst (λ (x : Shell). Has x.faces c) (sym i.2) m),
    )
  where
    of_loop : (s : ℤ) (u : List ℤ) (b : List (ℤ × Bool)) (d : ℤ × Bool) → AllHold (face_places f s u b d) → (l : Loop)
        → Has (map (loop_by f (keys_in f items)) (loops f d.0)) l → 0 < length l.uses
    of_loop s u b d hold l m =
        let k = has_map (loop_by f (keys_in f items)) (loops f d.0) l m in
        let e = loops_hold f s u b d hold k.0 k.1 in
        let count : length (map (use_by (keys_in f items)) (tuples f k.0)) ≡ length (tuples f k.0) = length-map (tuples f k.0) (use_by (keys_in f items)) in
        let some : 0 < length (map (use_by (keys_in f items)) (tuples f k.0)) = omega (arith, count, tuples_some f k.0 (loop_record f d.0 e.0 e.1 k.0 e.2)) in
        subst (λ (x : Loop). 0 < length x.uses) k.2 some

    of_face : (item : ℤ × Bool) → ((c : ℤ × Bool) → Has (faces f item.0) c → (u : List ℤ) × (d : List (ℤ × Bool)) × AllHold (face_places f item.0 u d c))
        → (c : FaceUse) → Has (map (face_by f (keys_in f items)) (faces f item.0)) c
        → (d : ℤ × Bool) × (face_by f (keys_in f items) d ≡ c) × (0 < length c.loops) × ((l : Loop) → Has c.loops l → 0 < length l.uses)
    of_face item hold c m =
        let d = has_map (face_by f (keys_in f items)) (faces f item.0) c m in
        let g = hold d.0 d.1 in
        let count : length (map (loop_by f (keys_in f items)) (loops f d.0.0)) ≡ length (loops f d.0.0) =
        length-map (loops f d.0.0) (loop_by f (keys_in f items)) in
        let some : 0 < length (map (loop_by f (keys_in f items)) (loops f d.0.0)) =
        omega (arith, count, loops_some f d.0.0 (face_record f item.0 g.0 g.1 d.0 g.2)) in (
          d.0,
          d.2,
          subst (λ (x : FaceUse). 0 < length x.loops) d.2 some,
          λ l k. of_loop item.0 g.0 g.1 d.0 g.2 l
              (subst (λ (x : FaceUse). Has x.loops l) (sym d.2) k),
        )

-- a file's solid lists its own shells
pub solid_lists : (f : Contents) (n : ℕ) → solid_of f n ≡ solid_listing f n (shells f (pos n))
unfolding solid_of solid_listing
solid_lists f n = refl

pub shells_of : (f : Contents) (n : ℕ) → AllHold (places f n) → (h : Shell) → Has (solid_of f n).shells h → (item : ℤ × Bool) × Has (shells f (pos n)) item
    × (shell_of f (pos n) item ≡ h) × (0 < length h.faces)
    × ((c : FaceUse) → Has h.faces c → (d : ℤ × Bool) × (face_of f (pos n) d ≡ c) × (0 < length c.loops) × ((l : Loop) → Has c.loops l → 0 < length l.uses))
shells_of f n all h here = shells_listed f n (shells f (pos n)) (listed_solid f n all) h (subst (λ (s : SolidData). Has s.shells h) (solid_lists f n) here)

entity_of : (f : Contents) (n : ℕ) (items : List (ℤ × Bool)) → (solid_listing f n items).entity.0 ≡ n
unfolding solid_listing
entity_of f n items = refl

-- A solid of listed shells keeps what every solid keeps.
pub listing_is_numbered : (f : Contents) (n : ℕ) (items : List (ℤ × Bool)) → AreListed f items → HasFewParts (solid_listing f n items) n
    → IsNumberedSolid (solid_listing f n items)
listing_is_numbered f n items held few =
    let found : EdgesFound f items = edges_found f items held in
    let s : SolidData = solid_listing f n items in
    record {
      edges = edges_in_order f n items found;
      vertices = vertices_in_order f n items found;
      edge_keys = edge_keys_differ f n items found;
      vertex_keys = vertex_keys_differ f n items;
      each_loop = All-from_recursion (λ (p : PlacedLoop). 0 < length p.loop.uses) (flat_map placed_loops s.shells)
          (All-from (λ (p : PlacedLoop). 0 < length p.loop.uses) (flat_map placed_loops s.shells) (λ p m.
          let h = from_flat_map placed_loops s.shells p m in
          let g = from_flat_map (placed_in_face h.0.flag) (enumerate_from 0 h.0.faces) p h.2 in
          let k = has_map _ (enumerate_from 0 g.0.1.loops) p g.2 in
          let c = (shells_listed f n items held h.0 h.1).4 g.0.1 (from_enumerated 0 h.0.faces g.0 g.1) in
          subst (λ (q : PlacedLoop). 0 < length q.loop.uses) k.2 (c.3 k.0.1 (from_enumerated 0 g.0.1.loops k.0 k.1))));
      each_face = All-from_recursion (λ (c : FaceUse). 0 < length c.loops) (flat_map (λ (h : Shell). h.faces) s.shells)
          (All-from (λ (c : FaceUse). 0 < length c.loops) (flat_map (λ (h : Shell). h.faces) s.shells) (λ c m.
          let h = from_flat_map (λ (x : Shell). x.faces) s.shells c m in ((shells_listed f n items held h.0 h.1).4 c h.2).2));
      each_shell = All-from_recursion (λ (h : Shell). 0 < length h.faces) s.shells
          (All-from (λ (h : Shell). 0 < length h.faces) s.shells (λ h m. (shells_listed f n items held h m).3));
      few_uses = few.few_uses;
      few_loops = few.few_loops;
      few_faces = few.few_faces;
      number = subst (λ k. k < 10 ^ 9) (sym (entity_of f n items)) few.number;
    }

-- The solid of a file whose places hold keeps what every solid keeps.
pub solid_is_numbered : (f : Contents) (n : ℕ) → AllHold (places f n) → HasFewParts (solid_of f n) n → IsNumberedSolid (solid_of f n)
solid_is_numbered f n all few =
    subst IsNumberedSolid (sym (solid_lists f n))
    (listing_is_numbered f n (shells f (pos n)) (listed_solid f n all) (subst (λ s. HasFewParts s n) (solid_lists f n) few))
