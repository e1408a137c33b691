-- Places that hold still hold once unused items are dropped.
use Rattle.std.specs.Prelude.{◌≡◌, ℕ, ◌+◌, Bool, true, false, ℤ, pos, List, [], ◌∷◌, ◌++◌, length, map, flat_map, All, Some}
use Rattle.std.specs.List.{AllByRecursion}
use Rattle.std.proofs.Common.{refl, sym, ◌∙◌, ap, subst}
use Rattle.std.proofs.lemmas.List.{map-append}
use Rattle.std.proofs.lemmas.List.Elements.{All-from_recursion, recursion_from_All}
use Rattle.iges_params.specs.Contents.{Contents}
use Rattle.iges_params.specs.Named.{record_values}
use Rattle.brep_lists.specs.Record.{LoopTuple, SolidItems, FaceItems, items_of, IsRecordOf}
use Rattle.brep_lists.specs.declared.entity_kind.EntityKind.{EntityKind}
use Rattle.brep_lists.specs.declared.entity_kind.EntityKind.TheVariants.{Solid as solid, Shell as shell, Face as face, Loop as «loop», EdgeList as edges}
use Rattle.brep_lists.specs.declared.entity_kind.EntityKind.TheVariants.{VertexList as vertices}
use Rattle.brep_lists.specs.declared.edge_list.EdgeTuple.{EdgeTuple}
use Rattle.solid_data.specs.Obligations.{Obligation, obligation, entry_number, AllHold, after_each}
use Rattle.solid_data.specs.declared.verdict.Rule.TheVariants.{BadGeometry}
use Rattle.solid_data.proofs.Members.{Has, All-from, all_append}
use Rattle.solid_data.proofs.ObligationLemmas.{AllHold-append, AllHold-append_left, AllHold-append_right, AllByRecursion-weaker}
use Rattle.brep_walk.specs.Places.{told, shells, faces, loops, tuples, numbers, edge_at, HasRecordOf, NamesGeometry, IsIndex, item_places, edge_places}
use Rattle.brep_walk.specs.Places.{used_places, tuple_at, tuple_places, loop_at, loop_places, face_at, face_places, shell_at, shell_places, places}
use Rattle.list_compact.specs.Used.{all_uses}
use Rattle.list_compact.specs.Dropped.{tuple_index, edge_index, vertex_index, reindexed_tuple, reindexed_edge, dropped_values, dropped}
use Rattle.list_compact.specs.Laws.{PlacesStillHold}
use Rattle.list_compact.proofs.Rewritten.{IsRewritten, loop_rewritten}
use Rattle.list_compact.proofs.DroppedEntries.{values_as, loop_dropped, solid_same, shell_same, face_same}
use Rattle.list_compact.proofs.UsedItems.{At, at_from, names_still, kind_still, geometry_still, record_still, use_there, EdgeStill, edge_still, VertexStill}
use Rattle.list_compact.proofs.UsedItems.{vertex_still, start_still, end_still}

-- ---- lists of obligations

-- the same items, of which those before are known
after_still : {A : Type 0} (F G : List A → A → List Obligation) (Known : A → Type 0)
    → ((before : List A) (x : A) → AllByRecursion Known before → AllHold (F before x) → Known x × AllHold (G before x))
    → (before xs : List A) → AllByRecursion Known before → AllHold (after_each F before xs) → AllByRecursion Known xs × AllHold (after_each G before xs)
after_still F G Known step before [] known all = (tt, tt)
after_still F G Known step before (x ∷ xs) known all =
    let here = step before x known (AllHold-append_left (F before x) (after_each F (before ++ x ∷ []) xs) all) in
    let rest = after_still F G Known step (before ++ x ∷ []) xs (all_append Known before (x ∷ []) known (here.0, tt))
    (AllHold-append_right (F before x) (after_each F (before ++ x ∷ []) xs) all) in
    ((here.0, rest.0), AllHold-append (G before x) (after_each G (before ++ x ∷ []) xs) here.1 rest.1)

-- items that are changed
after_changed : {A B : Type 0} (change : A → B) (F : List A → A → List Obligation) (G : List B → B → List Obligation) (Good Known : A → Type 0)
    → ((before : List A) (x : A) → Good x → AllHold (F before x) → Known x × AllHold (G (map change before) (change x)))
    → (before xs : List A) → AllByRecursion Good xs → AllHold (after_each F before xs)
    → AllByRecursion Known xs × AllHold (after_each G (map change before) (map change xs))
after_changed change F G Good Known step before [] good all = (tt, tt)
after_changed change F G Good Known step before (x ∷ xs) good all =
    let here = step before x good.0 (AllHold-append_left (F before x) (after_each F (before ++ x ∷ []) xs) all) in
    let rest = after_changed change F G Good Known step (before ++ x ∷ []) xs good.1
    (AllHold-append_right (F before x) (after_each F (before ++ x ∷ []) xs) all) in (
      (here.0, rest.0),
      AllHold-append (G (map change before) (change x)) (after_each G (map change before ++ change x ∷ []) (map change xs)) here.1
          (subst (λ bs. AllHold (after_each G bs (map change xs))) (map-append change before (x ∷ [])) rest.1),
    )

pub flat_same : {A B : Type 0} (F G : A → List B) (xs : List A) → AllByRecursion (λ x. G x ≡ F x) xs → flat_map G xs ≡ flat_map F xs
flat_same F G [] all = refl
flat_same F G (x ∷ xs) all = ap (λ ys. ys ++ flat_map G xs) all.0 ∙ ap (λ ys. F x ++ ys) (flat_same F G xs all.1)

pub numbers_all : (P : ℤ → Type 0) (items : List (ℤ × Bool)) → AllByRecursion (λ (i : ℤ × Bool). P i.0) items → AllByRecursion P (numbers items)
numbers_all P [] h = tt
numbers_all P (i ∷ items) h = (h.0, numbers_all P items h.1)

module _ (g : Contents) where
  abbrev d : Contents
  d = dropped g

  -- ---- what entities tell

  -- an entry whose values stay tells the same
  pub told_same : (kind : EntityKind) (z : ℤ) (a : At g kind z) → dropped_values g (entry_number z) a.entry ≡ a.entry.1
      → (told kind d z ≡ told kind g z) × HasRecordOf kind d z
  told_same kind z a same = (
    ap (items_of kind) (values_as g z a.entry a.at ∙ (same ∙ sym (ap record_values a.at))),
    record_still g kind z a.entry a.at (subst (IsRecordOf kind) (sym same) a.is),
  )

  pub tuples_told : (l : ℤ) (a : At g «loop» l) → (tuples d l ≡ map (reindexed_tuple g) (tuples g l)) × HasRecordOf «loop» d l
  tuples_told l a =
      let w : IsRewritten «loop» (map (reindexed_tuple g) (items_of «loop» a.entry.1)) a.entry.1 _ = loop_rewritten g a.entry.1 a.is in
      let same = loop_dropped g (entry_number l) a.entry a.typed in (
        ap (items_of «loop») (values_as g l a.entry a.at ∙ same)
            ∙ (w.items_are ∙ sym (ap (λ o. map (reindexed_tuple g) (items_of «loop» (record_values o))) a.at)),
        record_still g «loop» l a.entry a.at (subst (IsRecordOf «loop») (sym same) w.is),
      )

  -- ---- the obligations of an item

  item_holds : (e : ℤ) (place place' : ℕ) (kind : EntityKind) (z i j : ℤ) (n m : ℕ) → AllHold (item_places g e place kind z i n) → HasRecordOf kind d z
      → IsIndex j m → AllHold (item_places d e place' kind z j m)
  item_holds e place place' kind z i j n m all layout index = (names_still g z all.0, (kind_still g kind z all.1.0, (layout, (index, tt))))

  abbrev item_at : (kind : EntityKind) (e : ℤ) (place : ℕ) (z i : ℤ) (n : ℕ) → AllHold (item_places g e place kind z i n) → At g kind z
  item_at kind e place z i n all = at_from g kind z all.1.0 all.1.1.0

  -- an edge that is used, with its vertices
  pub record KnownEdge (z j : ℤ) : Type 0 where
    pub still : EdgeStill g z j
    pub start : VertexStill g still.edge.start_list still.edge.start_index
    pub end : VertexStill g still.edge.end_list still.edge.end_index

  start_of : (e : ℤ) (j : ℕ) (x : EdgeTuple) → AllHold (edge_places g e j (Some x))
      → AllHold (item_places g e j vertices x.start_list x.start_index (length (told vertices g x.start_list)))
  start_of e j x all = AllHold-append_left (item_places g e j vertices x.start_list x.start_index (length (told vertices g x.start_list)))
      (item_places g e j vertices x.end_list x.end_index (length (told vertices g x.end_list))) all.1

  end_of : (e : ℤ) (j : ℕ) (x : EdgeTuple) → AllHold (edge_places g e j (Some x))
      → AllHold (item_places g e j vertices x.end_list x.end_index (length (told vertices g x.end_list)))
  end_of e j x all = AllHold-append_right (item_places g e j vertices x.start_list x.start_index (length (told vertices g x.start_list)))
      (item_places g e j vertices x.end_list x.end_index (length (told vertices g x.end_list))) all.1

  edge_known : (z j : ℤ) (s : EdgeStill g z j) → AllHold (edge_places g z (entry_number j) (Some s.edge)) → KnownEdge z j
  edge_known z j s all =
      let start = start_of z (entry_number j) s.edge all in
      let end = end_of z (entry_number j) s.edge all in
      record {
        still = s;
        start = start_still g s.edge (at_from g vertices s.edge.start_list start.1.0 start.1.1.0) s.among start.1.1.1.0;
        end = end_still g s.edge (at_from g vertices s.edge.end_list end.1.0 end.1.1.0) s.among end.1.1.1.0;
      }

  edge_holds : (e : ℤ) (j k : ℕ) (x : EdgeTuple) → VertexStill g x.start_list x.start_index → VertexStill g x.end_list x.end_index
      → AllHold (edge_places g e j (Some x)) → AllHold (edge_places d e k (Some (reindexed_edge g x)))
  edge_holds e j k x s t all = (
    geometry_still g x.curve all.0,
    AllHold-append (item_places d e k vertices x.start_list (vertex_index g x.start_list x.start_index) (length (told vertices d x.start_list)))
        (item_places d e k vertices x.end_list (vertex_index g x.end_list x.end_index) (length (told vertices d x.end_list)))
        (item_holds e j k vertices x.start_list x.start_index (vertex_index g x.start_list x.start_index) (length (told vertices g x.start_list))
        (length (told vertices d x.start_list)) (start_of e j x all) s.layout s.index)
        (item_holds e j k vertices x.end_list x.end_index (vertex_index g x.end_list x.end_index) (length (told vertices g x.end_list))
        (length (told vertices d x.end_list)) (end_of e j x all) t.layout t.index),
  )

  -- what a tuple of a loop uses, where its places hold
  abbrev pub KnownUse : Bool → ℤ → ℤ → Type 0
  KnownUse true z j = VertexStill g z j
  KnownUse false z j = KnownEdge z j

  abbrev pub KnownTuple : LoopTuple → Type 0
  KnownTuple t = KnownUse t.is_vertex t.«list» t.index

  used_edge_at : (l : ℤ) (place : ℕ) (z j : ℤ) → AllHold (used_places g l place z j false)
      → AllHold (edge_places g z (entry_number j) (edge_at g z (entry_number j)))
  used_edge_at l place z j all = AllHold-append_right (item_places g l place edges z j (length (told edges g z)))
      (edge_places g z (entry_number j) (edge_at g z (entry_number j))) all

  used_item_at : (l : ℤ) (place : ℕ) (z j : ℤ) → AllHold (used_places g l place z j false) → AllHold (item_places g l place edges z j (length (told edges g z)))
  used_item_at l place z j all = AllHold-append_left (item_places g l place edges z j (length (told edges g z)))
      (edge_places g z (entry_number j) (edge_at g z (entry_number j))) all

  use_known : (l : ℤ) (place : ℕ) (b : Bool) (z j : ℤ) (t : LoopTuple) → Has (all_uses g) t → t.is_vertex ≡ b → t.«list» ≡ z → t.index ≡ j
      → AllHold (used_places g l place z j b) → KnownUse b z j
  use_known l place true z j t h v e i all = vertex_still g z j t (at_from g vertices z all.1.0 all.1.1.0) h v e i all.1.1.1.0
  use_known l place false z j t h v e i all =
      let item = used_item_at l place z j all in
      let s : EdgeStill g z j = edge_still g z j t (at_from g edges z item.1.0 item.1.1.0) h v e i item.1.1.1.0 in
      edge_known z j s (subst (λ o. AllHold (edge_places g z (entry_number j) o)) s.before (used_edge_at l place z j all))

  use_holds : (l : ℤ) (place place' : ℕ) (b : Bool) (z j : ℤ) → KnownUse b z j → AllHold (used_places g l place z j b)
      → AllHold (used_places d l place' z (tuple_index g b z j) b)
  use_holds l place place' true z j s all = item_holds l place place' vertices z j (vertex_index g z j) (length (told vertices g z))
      (length (told vertices d z)) all s.layout s.index
  use_holds l place place' false z j s all =
      let x : EdgeStill g z j = s.still in
      AllHold-append (item_places d l place' edges z (edge_index g z j) (length (told edges d z)))
      (edge_places d z (entry_number (edge_index g z j)) (edge_at d z (entry_number (edge_index g z j))))
      (item_holds l place place' edges z j (edge_index g z j) (length (told edges g z)) (length (told edges d z)) (used_item_at l place z j all) x.layout
      x.index)
      (subst (λ o. AllHold (edge_places d z (entry_number (edge_index g z j)) o)) (sym x.after)
      (edge_holds z (entry_number j) (entry_number (edge_index g z j)) x.edge s.start s.end
      (subst (λ o. AllHold (edge_places g z (entry_number j) o)) x.before (used_edge_at l place z j all))))

  curves_hold : (cs : List (Bool × ℤ)) → All (λ (c : Bool × ℤ). NamesGeometry g c.1) cs → All (λ (c : Bool × ℤ). NamesGeometry d c.1) cs
  curves_hold cs h =
      All-from_recursion (λ (c : Bool × ℤ). NamesGeometry d c.1) cs
      (AllByRecursion-weaker (λ (c : Bool × ℤ). NamesGeometry g c.1) (λ (c : Bool × ℤ). NamesGeometry d c.1) cs (λ c k. geometry_still g c.1 k)
      (recursion_from_All (λ (c : Bool × ℤ). NamesGeometry g c.1) cs h))

  tuple_holds : (l : ℤ) (place place' : ℕ) (t : LoopTuple) → Has (all_uses g) t → AllHold (tuple_at g l place t)
      → KnownTuple t × AllHold (tuple_at d l place' (reindexed_tuple g t))
  tuple_holds l place place' t h all =
      let uses : AllHold (used_places g l place t.«list» t.index t.is_vertex) = AllHold-append_left (used_places g l place t.«list» t.index t.is_vertex)
      (obligation BadGeometry (entry_number l) place (All (λ (c : Bool × ℤ). NamesGeometry g c.1) t.curves) ∷ []) all in
      let curves : AllHold (obligation BadGeometry (entry_number l) place (All (λ (c : Bool × ℤ). NamesGeometry g c.1) t.curves) ∷ []) =
      AllHold-append_right (used_places g l place t.«list» t.index t.is_vertex)
      (obligation BadGeometry (entry_number l) place (All (λ (c : Bool × ℤ). NamesGeometry g c.1) t.curves) ∷ []) all in
      let known : KnownTuple t = use_known l place t.is_vertex t.«list» t.index t h refl refl refl uses in (
        known,
        AllHold-append (used_places d l place' t.«list» (tuple_index g t.is_vertex t.«list» t.index) t.is_vertex)
            (obligation BadGeometry (entry_number l) place' (All (λ (c : Bool × ℤ). NamesGeometry d c.1) t.curves) ∷ [])
            (use_holds l place place' t.is_vertex t.«list» t.index known uses) (curves_hold t.curves curves.0, tt),
      )

  tuple_step : (l : ℤ) (before : List LoopTuple) (t : LoopTuple) → Has (all_uses g) t → AllHold (tuple_places g l before t)
      → KnownTuple t × AllHold (tuple_places d l (map (reindexed_tuple g) before) (reindexed_tuple g t))
  unfolding tuple_places
  tuple_step l before t h all = tuple_holds l (length before + 1) (length (map (reindexed_tuple g) before) + 1) t h all

  -- ---- loops, faces, shells

  -- the loop tells the same tuples, with other indices, and what they use stands still
  pub record SameLoop (l : ℤ) : Type 0 where
    pub same : tuples d l ≡ map (reindexed_tuple g) (tuples g l)
    pub uses : AllByRecursion KnownTuple (tuples g l)

  loop_holds : (c : ℤ) (place : ℕ) (known : List ℤ) (l : ℤ) → AllHold (loop_at g c place known l) → SameLoop l × AllHold (loop_at d c place known l)
  loop_holds c place known l all =
      let a : At g «loop» l = at_from g «loop» l all.1.0 all.1.1.0 in
      let t = tuples_told l a in
      let uses : AllByRecursion (Has (all_uses g)) (tuples g l) = All-from (Has (all_uses g)) (tuples g l) (λ u h. use_there g l u a h) in
      let after : AllHold (after_each (tuple_places g l) [] (tuples g l)) = all.1.1.1.1 in
      let still = after_changed (reindexed_tuple g) (tuple_places g l) (tuple_places d l) (Has (all_uses g)) KnownTuple (tuple_step l) [] (tuples g l) uses
      after in (
        record { same = t.0; uses = still.0 },
        (
          names_still g l all.0,
          (kind_still g «loop» l all.1.0, (t.1, (all.1.1.1.0, subst (λ ts. AllHold (after_each (tuple_places d l) [] ts)) (sym t.0) still.1))),
        ),
      )

  loop_step : (c : ℤ) (used before : List ℤ) (l : ℤ) → AllByRecursion SameLoop before → AllHold (loop_places g c used before l)
      → SameLoop l × AllHold (loop_places d c used before l)
  unfolding loop_places
  loop_step c used before l known all = loop_holds c (length before + 1) (used ++ before) l all

  -- the face tells the same loops, and so do these
  pub record SameFace (c : ℤ) : Type 0 where
    pub same : loops d c ≡ loops g c
    pub loops_same : AllByRecursion SameLoop (loops g c)

  face_holds : (s : ℤ) (place : ℕ) (known : List ℤ) (c : ℤ) → AllByRecursion SameFace known → AllHold (face_at g s place known c)
      → SameFace c × AllHold (face_at d s place known c)
  face_holds s place known c ks all =
      let a : At g face c = at_from g face c all.1.0 all.1.1.0 in
      let t = told_same face c a (face_same g (entry_number c) a.entry a.typed) in
      let same : loops d c ≡ loops g c = ap (λ (i : FaceItems). i.loops) t.0 in
      let used : flat_map (loops d) known ≡ flat_map (loops g) known =
      flat_same (loops g) (loops d) known (AllByRecursion-weaker SameFace (λ b. loops d b ≡ loops g b) known (λ b k. k.same) ks) in
      let after : AllHold (after_each (loop_places g c (flat_map (loops g) known)) [] (loops g c)) = all.1.1.1.1.1 in
      let still = after_still (loop_places g c (flat_map (loops g) known)) (loop_places d c (flat_map (loops g) known)) SameLoop
      (loop_step c (flat_map (loops g) known)) [] (loops g c) tt after in (
        record { same = same; loops_same = still.0 },
        (
          names_still g c all.0,
          (
            kind_still g face c all.1.0,
            (
              t.1,
              (
                all.1.1.1.0,
                (
                  subst (λ (i : FaceItems). NamesGeometry d i.surface) (sym t.0) (geometry_still g (let items = told face g c in items.surface) all.1.1.1.1.0),
                  subst (λ us. AllHold (after_each (loop_places d c us) [] (loops d c))) (sym used)
                      (subst (λ ls. AllHold (after_each (loop_places d c (flat_map (loops g) known)) [] ls)) (sym same) still.1),
                ),
              ),
            ),
          ),
        ),
      )

  face_step : (s : ℤ) (used : List ℤ) → AllByRecursion SameFace used → (before : List (ℤ × Bool)) (i : ℤ × Bool)
      → AllByRecursion (λ (j : ℤ × Bool). SameFace j.0) before → AllHold (face_places g s used before i)
      → SameFace i.0 × AllHold (face_places d s used before i)
  unfolding face_places
  face_step s used us before i bs all = face_holds s (length before + 1) (used ++ numbers before) i.0
      (all_append SameFace used (numbers before) us (numbers_all SameFace before bs)) all

  -- the shell tells the same faces, and so do these
  pub record SameShell (s : ℤ) : Type 0 where
    pub same : faces d s ≡ faces g s
    pub faces_same : AllByRecursion SameFace (numbers (faces g s))

  pub faces_known : (known : List ℤ) → AllByRecursion SameShell known → AllByRecursion SameFace (flat_map (λ b. numbers (faces g b)) known)
  faces_known [] ks = tt
  faces_known (s ∷ known) ks = let k : SameShell s = ks.0 in all_append SameFace (numbers (faces g s)) (flat_map (λ b. numbers (faces g b)) known) k.faces_same
      (faces_known known ks.1)

  shell_holds : (n : ℤ) (place : ℕ) (known : List ℤ) (s : ℤ) → AllByRecursion SameShell known → AllHold (shell_at g n place known s)
      → SameShell s × AllHold (shell_at d n place known s)
  shell_holds n place known s ks all =
      let a : At g shell s = at_from g shell s all.1.0 all.1.1.0 in
      let t = told_same shell s a (shell_same g (entry_number s) a.entry a.typed) in
      let used : flat_map (λ b. numbers (faces d b)) known ≡ flat_map (λ b. numbers (faces g b)) known =
      flat_same (λ b. numbers (faces g b)) (λ b. numbers (faces d b)) known
      (AllByRecursion-weaker SameShell (λ b. numbers (faces d b) ≡ numbers (faces g b)) known (λ b k. ap numbers k.same) ks) in
      let after : AllHold (after_each (face_places g s (flat_map (λ b. numbers (faces g b)) known)) [] (faces g s)) = all.1.1.1.1 in
      let still = after_still (face_places g s (flat_map (λ b. numbers (faces g b)) known)) (face_places d s (flat_map (λ b. numbers (faces g b)) known))
      (λ (i : ℤ × Bool). SameFace i.0) (face_step s (flat_map (λ b. numbers (faces g b)) known) (faces_known known ks)) [] (faces g s) tt after in (
        record { same = t.0; faces_same = numbers_all SameFace (faces g s) still.0 },
        (
          names_still g s all.0,
          (
            kind_still g shell s all.1.0,
            (
              t.1,
              (
                all.1.1.1.0,
                subst (λ us. AllHold (after_each (face_places d s us) [] (faces d s))) (sym used)
                    (subst (λ is. AllHold (after_each (face_places d s (flat_map (λ b. numbers (faces g b)) known)) [] is)) (sym t.0) still.1),
              ),
            ),
          ),
        ),
      )

  shell_step : (n : ℤ) (before : List (ℤ × Bool)) (i : ℤ × Bool) → AllByRecursion (λ (j : ℤ × Bool). SameShell j.0) before
      → AllHold (shell_places g n before i) → SameShell i.0 × AllHold (shell_places d n before i)
  unfolding shell_places
  shell_step n before i bs all = shell_holds n (length before + 1) (numbers before) i.0 (numbers_all SameShell before bs) all

  -- the solid tells the same shells, and so on
  pub record SameSolid (n : ℤ) : Type 0 where
    pub same : shells d n ≡ shells g n
    pub shells_same : AllByRecursion (λ (i : ℤ × Bool). SameShell i.0) (shells g n)

  pub solid_holds : (n : ℕ) → AllHold (places g n) → SameSolid (pos n) × AllHold (places d n)
  unfolding places
  solid_holds n all =
      let a : At g solid (pos n) = at_from g solid (pos n) all.1.0 all.1.1.0 in
      let t = told_same solid (pos n) a (solid_same g n a.entry a.typed) in
      let same : shells d (pos n) ≡ shells g (pos n) = ap (λ (i : SolidItems). i.outer ∷ i.voids) t.0 in
      let after : AllHold (after_each (shell_places g (pos n)) [] (shells g (pos n))) = all.1.1.1 in
      let still = after_still (shell_places g (pos n)) (shell_places d (pos n)) (λ (i : ℤ × Bool). SameShell i.0) (shell_step (pos n)) [] (shells g (pos n)) tt
      after in (
        record { same = same; shells_same = still.0 },
        (
          names_still g (pos n) all.0,
          (
            kind_still g solid (pos n) all.1.0,
            (
              t.1,
              subst (λ is. AllHold (after_each (shell_places d (pos n)) [] is)) (sym same) still.1,
            ),
          ),
        ),
      )

pub still_hold : PlacesStillHold
still_hold g n all = (solid_holds g n all).1
