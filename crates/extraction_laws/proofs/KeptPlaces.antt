-- The places of kept entities fail alike in both files.
use Rattle.std.specs.Prelude.{◌≡◌, ◌↔◌, ℕ, ◌+◌, ◌-◌, Bool, true, false, ℤ, pos, List, [], ◌∷◌, ◌++◌, length, map, flat_map, Option, Some, None, slice_get, All}
use Rattle.std.specs.Prelude.{Contains, option_map}
use Rattle.std.specs.List.{AllByRecursion}
use Rattle.std.proofs.Common.{refl, sym, ◌∙◌, ap, subst, arith, inr}
use Rattle.std.proofs.lemmas.List.{map-append, length-map}
use Rattle.std.proofs.lemmas.List.Elements.{All-from_recursion, recursion_from_All}
use Rattle.std.proofs.lemmas.Option.{slice_get-map}
use Rattle.iges_params.specs.Contents.{Contents}
use Rattle.brep_lists.specs.Record.{SolidItems, FaceItems, LoopTuple}
use Rattle.brep_lists.specs.declared.entity_kind.EntityKind.{EntityKind}
use Rattle.brep_lists.specs.declared.entity_kind.EntityKind.TheVariants.{Solid as solid, Shell as shell, Face as face, Loop as «loop», EdgeList as edges}
use Rattle.brep_lists.specs.declared.entity_kind.EntityKind.TheVariants.{VertexList as vertices}
use Rattle.brep_lists.specs.declared.edge_list.EdgeTuple.{EdgeTuple}
use Rattle.solid_data.specs.Obligations.{Obligation, obligation, entry_number, AllHold, after_each}
use Rattle.solid_data.specs.declared.verdict.Failing.{Failing}
use Rattle.solid_data.specs.declared.verdict.Rule.{Rule}
use Rattle.solid_data.specs.declared.verdict.Rule.TheVariants.{NoEntry, WrongKind, BadLayout, Twice, BadIndex, BadGeometry}
use Rattle.solid_data.proofs.Members.{Has, Has-from_Contains, Contains-from_Has, All-at, has_map, map_has, all_append, all_flat_map, OptionAll, get_some}
use Rattle.solid_data.proofs.ObligationLemmas.{AllHold-append_left, AllHold-append_right, AllByRecursion-weaker}
use Rattle.brep_walk.specs.Places.{told, shells, faces, loops, tuples, numbers, edge_at, Names, NamesKind, HasRecordOf, NamesGeometry, IsIndex, record_places}
use Rattle.brep_walk.specs.Places.{item_places, edge_places, used_places, tuple_at, tuple_places, loop_at, loop_places, face_at, face_places, shell_at}
use Rattle.brep_walk.specs.Places.{shell_places, places}
use Rattle.solid_extract.specs.Kept.{renamed_pair, renamed_curve, renamed_tuple, renamed_edge}
use Rattle.list_compact.proofs.StillHold.{numbers_all}
use Rattle.extraction_laws.specs.Alike.{FailAlike, OneAlike}
use Rattle.extraction_laws.specs.Relabelled.{renumbered, AreNamedAlike}
use Rattle.extraction_laws.proofs.AlikeLists.{append_alike}
use Rattle.extraction_laws.proofs.Renames.{IsEntity, IsPointer, IsNew, Renames, names_same, kind_same, geometry_same, is_entity, tells, number_new}
use Rattle.extraction_laws.proofs.Renames.{pointers_apart}
use Rattle.extraction_laws.proofs.RenamedPlaces.{renumbered_named}
use Rattle.extraction_laws.proofs.Pointers.{all_get, PointedPair, PointedCurve, PointedTuple, PointedEdge, shells_pointed, faces_pointed, loops_pointed}
use Rattle.extraction_laws.proofs.Pointers.{tuples_pointed, edges_pointed}

-- ---- what holding places tell of the entities that they name

module _ (f : Contents) (K : ℕ → Type 0) where
  -- the list of a tuple is kept; of an edge it has the item, and the lists of its vertices are kept
  abbrev pub KnownUse : Bool → ℤ → ℤ → Type 0
  KnownUse true z j = IsEntity K z
  KnownUse false z j = (x : EdgeTuple) × IsEntity K z × NamesKind edges f z × (edge_at f z (entry_number j) ≡ Some x) × IsEntity K x.start_list
      × IsEntity K x.end_list

  abbrev pub KnownTuple : LoopTuple → Type 0
  KnownTuple t = KnownUse t.is_vertex t.«list» t.index

  pub record KnownLoop (l : ℤ) : Type 0 where
    pub entity : IsEntity K l
    pub kind : NamesKind «loop» f l
    pub tuples : AllByRecursion KnownTuple (tuples f l)

  pub record KnownFace (c : ℤ) : Type 0 where
    pub entity : IsEntity K c
    pub kind : NamesKind face f c
    pub loops : AllByRecursion KnownLoop (loops f c)

  pub record KnownShell (s : ℤ) : Type 0 where
    pub entity : IsEntity K s
    pub kind : NamesKind shell f s
    pub faces : AllByRecursion (λ (i : ℤ × Bool). KnownFace i.0) (faces f s)

  pub record KnownSolid (n : ℤ) : Type 0 where
    pub entity : IsEntity K n
    pub kind : NamesKind solid f n
    pub shells : AllByRecursion (λ (i : ℤ × Bool). KnownShell i.0) (shells f n)

-- what holding obligations tell of each item
all_after : {A : Type 0} (F : List A → A → List Obligation) (Good Known : A → Type 0) → ((before : List A) (x : A) → Good x → AllHold (F before x) → Known x)
    → (before xs : List A) → AllByRecursion Good xs → AllHold (after_each F before xs) → AllByRecursion Known xs
all_after F Good Known next before [] good all = tt
all_after F Good Known next before (x ∷ xs) good all = (
  next before x good.0 (AllHold-append_left (F before x) (after_each F (before ++ x ∷ []) xs) all),
  all_after F Good Known next (before ++ x ∷ []) xs good.1 (AllHold-append_right (F before x) (after_each F (before ++ x ∷ []) xs) all),
)

after_alike : {A B : Type 0} (Q : Failing → Failing → Type 0) (change : A → B) (F : List A → A → List Obligation) (G : List B → B → List Obligation)
    (Good Known : A → Type 0)
    → ((before : List A) (x : A) → AllByRecursion Known before → Good x → FailAlike Q (F before x) (G (map change before) (change x)))
    → ((before : List A) (x : A) → Good x → AllHold (F before x) → Known x)
    → (before xs : List A) → AllByRecursion Known before → AllByRecursion Good xs
    → FailAlike Q (after_each F before xs) (after_each G (map change before) (map change xs))
after_alike Q change F G Good Known step next before [] known good = tt
after_alike Q change F G Good Known step next before (x ∷ xs) known good =
    append_alike Q (F before x) (after_each F (before ++ x ∷ []) xs) (G (map change before) (change x))
    (after_each G (map change before ++ change x ∷ []) (map change xs)) (step before x known good.0)
    (λ all. subst (λ bs. FailAlike Q (after_each F (before ++ x ∷ []) xs) (after_each G bs (map change xs))) (map-append change before (x ∷ []))
    (after_alike Q change F G Good Known step next (before ++ x ∷ []) xs (all_append Known before (x ∷ []) known (next before x good.0 all, tt)) good.1))

-- what each item gives, renamed
pub flat_known : {A B C D : Type 0} (Known : A → Type 0) (change : A → B) (F : A → List C) (G : B → List D) (rename : C → D)
    → ((x : A) → Known x → G (change x) ≡ map rename (F x)) → (xs : List A) → AllByRecursion Known xs → flat_map G (map change xs) ≡ map rename (flat_map F xs)
flat_known Known change F G rename same [] known = refl
flat_known Known change F G rename same (x ∷ xs) known =
    ap (λ zs. zs ++ flat_map G (map change xs)) (same x known.0)
    ∙ (ap (λ zs. map rename (F x) ++ zs) (flat_known Known change F G rename same xs known.1)
    ∙ sym (map-append rename (F x) (flat_map F xs)))

pub numbers_renamed : (g : ℤ → ℤ) (items : List (ℤ × Bool)) → numbers (map (renamed_pair g) items) ≡ map g (numbers items)
numbers_renamed g [] = refl
numbers_renamed g (i ∷ items) = ap (λ zs. g i.0 ∷ zs) (numbers_renamed g items)

module _ (f q : Contents) (K : ℕ → Type 0) (new : ℕ → ℕ) (g : ℤ → ℤ) (h : Renames f q K new g) where
  -- ---- what entities tell in both files

  pub tuples_new : (l : ℤ) → IsEntity K l → NamesKind «loop» f l → tuples q (g l) ≡ map (renamed_tuple g) (tuples f l)
  tuples_new l e n = let t = tells f q K new g h «loop» l e n in t.same

  pub loops_new : (c : ℤ) → IsEntity K c → NamesKind face f c → loops q (g c) ≡ map g (loops f c)
  loops_new c e n = let t = tells f q K new g h face c e n in ap (λ (i : FaceItems). i.loops) t.same

  pub faces_new : (s : ℤ) → IsEntity K s → NamesKind shell f s → faces q (g s) ≡ map (renamed_pair g) (faces f s)
  faces_new s e n = let t = tells f q K new g h shell s e n in t.same

  pub shells_new : (n : ℤ) → IsEntity K n → NamesKind solid f n → shells q (g n) ≡ map (renamed_pair g) (shells f n)
  shells_new n e k = let t = tells f q K new g h solid n e k in ap (λ (i : SolidItems). i.outer ∷ i.voids) t.same

  pub edge_new : (z : ℤ) (j : ℕ) → IsEntity K z → NamesKind edges f z → edge_at q (g z) j ≡ option_map (renamed_edge g) (edge_at f z j)
  edge_new z j e n = let t = tells f q K new g h edges z e n in ap (λ ts. slice_get ts (j - 1)) t.same ∙ slice_get-map (renamed_edge g) (told edges f z) (j - 1)

  edge_count : (z : ℤ) → IsEntity K z → NamesKind edges f z → length (told edges q (g z)) ≡ length (told edges f z)
  edge_count z e n = let t = tells f q K new g h edges z e n in ap length t.same ∙ length-map (told edges f z) (renamed_edge g)

  vertex_count : (z : ℤ) → IsEntity K z → NamesKind vertices f z → length (told vertices q (g z)) ≡ length (told vertices f z)
  vertex_count z e n = let t = tells f q K new g h vertices z e n in ap length t.same

  tuple_pointers : (l : ℤ) → IsEntity K l → NamesKind «loop» f l → AllByRecursion (PointedTuple (IsPointer K)) (tuples f l)
  tuple_pointers l e n = let t = tells f q K new g h «loop» l e n in tuples_pointed (IsPointer K) (tuples f l) t.pointers

  loop_pointers : (c : ℤ) → IsEntity K c → NamesKind face f c → AllByRecursion (IsPointer K) (loops f c)
  loop_pointers c e n = let t = tells f q K new g h face c e n in loops_pointed (IsPointer K) (told face f c) t.pointers

  surface_pointer : (c : ℤ) → IsEntity K c → NamesKind face f c → (let items = told face f c in IsPointer K items.surface)
  surface_pointer c e n = let t = tells f q K new g h face c e n in t.pointers.0

  face_pointers : (s : ℤ) → IsEntity K s → NamesKind shell f s → AllByRecursion (PointedPair (IsPointer K)) (faces f s)
  face_pointers s e n = let t = tells f q K new g h shell s e n in faces_pointed (IsPointer K) (faces f s) t.pointers

  shell_pointers : (n : ℤ) → IsEntity K n → NamesKind solid f n → AllByRecursion (PointedPair (IsPointer K)) (shells f n)
  shell_pointers n e k = let t = tells f q K new g h solid n e k in shells_pointed (IsPointer K) (told solid f n) t.pointers

  edge_pointers : (z : ℤ) (j : ℕ) → IsEntity K z → NamesKind edges f z → OptionAll (PointedEdge (IsPointer K)) (edge_at f z j)
  edge_pointers z j e n = let t = tells f q K new g h edges z e n in all_get (PointedEdge (IsPointer K)) (told edges f z) (j - 1)
      (edges_pointed (IsPointer K) (told edges f z) t.pointers)

  -- ---- what holding places tell

  index_found : (z j : ℤ) → IsIndex j (length (told edges f z)) → (t : EdgeTuple) × (edge_at f z (entry_number j) ≡ Some t)
  index_found z j (k, is, low, high) =
      let x = get_some (told edges f z) (k - 1) (omega (arith, low, high)) in
      (x.0, ap (λ i. slice_get (told edges f z) (entry_number i - 1)) is ∙ x.1)

  use_known : (l : ℤ) (place : ℕ) (b : Bool) (z j : ℤ) → IsPointer K z → AllHold (used_places f l place z j b) → KnownUse f K b z j
  use_known l place true z j p all = is_entity f q K new g h z p all.0
  use_known l place false z j p all =
      let list_holds : AllHold (item_places f l place edges z j (length (told edges f z))) =
      AllHold-append_left (item_places f l place edges z j (length (told edges f z))) (edge_places f z (entry_number j) (edge_at f z (entry_number j)))
      all in
      let edge_holds : AllHold (edge_places f z (entry_number j) (edge_at f z (entry_number j))) =
      AllHold-append_right (item_places f l place edges z j (length (told edges f z))) (edge_places f z (entry_number j) (edge_at f z (entry_number j)))
      all in
      let e : IsEntity K z = is_entity f q K new g h z p list_holds.0 in
      let x = index_found z j list_holds.1.1.1.0 in
      let ends : AllHold (edge_places f z (entry_number j) (Some x.0)) = subst (λ o. AllHold (edge_places f z (entry_number j) o)) x.1 edge_holds in
      let pointed : PointedEdge (IsPointer K) x.0 = subst (OptionAll (PointedEdge (IsPointer K))) x.1 (edge_pointers z (entry_number j) e list_holds.1.0) in (
        x.0,
        e,
        list_holds.1.0,
        x.1,
        is_entity f q K new g h x.0.start_list pointed.start ends.1.0,
        is_entity f q K new g h x.0.end_list pointed.end
            ends.1.1.1.1.1.0,
      )

  tuple_known : (l : ℤ) (before : List LoopTuple) (t : LoopTuple) → PointedTuple (IsPointer K) t → AllHold (tuple_places f l before t) → KnownTuple f K t
  unfolding tuple_places
  tuple_known l before t p all = use_known l (length before + 1) t.is_vertex t.«list» t.index p.names
      (AllHold-append_left (used_places f l (length before + 1) t.«list» t.index t.is_vertex) _ all)

  loop_known : (c : ℤ) (place : ℕ) (known : List ℤ) (l : ℤ) → IsPointer K l → AllHold (loop_at f c place known l) → KnownLoop f K l
  loop_known c place known l p all =
      let front : AllHold (record_places f c place «loop» l ++ (obligation Twice (entry_number c) place (¬ Contains known l) ∷ [])) =
      AllHold-append_left (record_places f c place «loop» l ++ (obligation Twice (entry_number c) place (¬ Contains known l) ∷ []))
      (after_each (tuple_places f l) [] (tuples f l)) all in
      let rest : AllHold (after_each (tuple_places f l) [] (tuples f l)) =
      AllHold-append_right (record_places f c place «loop» l ++ (obligation Twice (entry_number c) place (¬ Contains known l) ∷ []))
      (after_each (tuple_places f l) [] (tuples f l)) all in
      let e : IsEntity K l = is_entity f q K new g h l p front.0 in
      record {
        entity = e;
        kind = front.1.0;
        tuples = all_after (tuple_places f l) (PointedTuple (IsPointer K)) (KnownTuple f K) (tuple_known l) [] (tuples f l) (tuple_pointers l e front.1.0) rest;
      }

  loop_item_known : (c : ℤ) (used before : List ℤ) (l : ℤ) → IsPointer K l → AllHold (loop_places f c used before l) → KnownLoop f K l
  unfolding loop_places
  loop_item_known c used before l p all = loop_known c (length before + 1) (used ++ before) l p all

  -- the obligations of a face but those of its loops
  abbrev face_front : ℤ → ℕ → List ℤ → ℤ → List Obligation
  face_front s place known c = record_places f s place face c
      ++ (obligation Twice (entry_number s) place (¬ Contains known c) ∷ obligation BadGeometry (entry_number c) 0
      (let items = told face f c in NamesGeometry f items.surface) ∷ [])

  face_known : (s : ℤ) (place : ℕ) (known : List ℤ) (c : ℤ) → IsPointer K c → AllHold (face_at f s place known c) → KnownFace f K c
  face_known s place known c p all =
      let front : AllHold (face_front s place known c) =
      AllHold-append_left (face_front s place known c) (after_each (loop_places f c (flat_map (loops f) known)) [] (loops f c)) all in
      let rest : AllHold (after_each (loop_places f c (flat_map (loops f) known)) [] (loops f c)) =
      AllHold-append_right (face_front s place known c) (after_each (loop_places f c (flat_map (loops f) known)) [] (loops f c)) all in
      let e : IsEntity K c = is_entity f q K new g h c p front.0 in
      record {
        entity = e;
        kind = front.1.0;
        loops = all_after (loop_places f c (flat_map (loops f) known)) (IsPointer K) (KnownLoop f K) (loop_item_known c (flat_map (loops f) known)) []
            (loops f c) (loop_pointers c e front.1.0) rest;
      }

  face_item_known : (s : ℤ) (used : List ℤ) (before : List (ℤ × Bool)) (i : ℤ × Bool) → PointedPair (IsPointer K) i → AllHold (face_places f s used before i)
      → KnownFace f K i.0
  unfolding face_places
  face_item_known s used before i p all = face_known s (length before + 1) (used ++ numbers before) i.0 p all

  abbrev shell_front : ℤ → ℕ → List ℤ → ℤ → List Obligation
  shell_front n place known s = record_places f n place shell s ++ (obligation Twice (entry_number n) place (¬ Contains known s) ∷ [])

  shell_known : (n : ℤ) (place : ℕ) (known : List ℤ) (s : ℤ) → IsPointer K s → AllHold (shell_at f n place known s) → KnownShell f K s
  shell_known n place known s p all =
      let front : AllHold (shell_front n place known s) =
      AllHold-append_left (shell_front n place known s) (after_each (face_places f s (flat_map (λ b. numbers (faces f b)) known)) [] (faces f s)) all in
      let rest : AllHold (after_each (face_places f s (flat_map (λ b. numbers (faces f b)) known)) [] (faces f s)) =
      AllHold-append_right (shell_front n place known s) (after_each (face_places f s (flat_map (λ b. numbers (faces f b)) known)) [] (faces f s)) all in
      let e : IsEntity K s = is_entity f q K new g h s p front.0 in
      record {
        entity = e;
        kind = front.1.0;
        faces = all_after (face_places f s (flat_map (λ b. numbers (faces f b)) known)) (PointedPair (IsPointer K)) (λ (i : ℤ × Bool). KnownFace f K i.0)
            (face_item_known s (flat_map (λ b. numbers (faces f b)) known)) [] (faces f s) (face_pointers s e front.1.0) rest;
      }

  shell_item_known : (n : ℤ) (before : List (ℤ × Bool)) (i : ℤ × Bool) → PointedPair (IsPointer K) i → AllHold (shell_places f n before i) → KnownShell f K i.0
  unfolding shell_places
  shell_item_known n before i p all = shell_known n (length before + 1) (numbers before) i.0 p all

  pub solid_known : (n : ℕ) → K n → AllHold (places f n) → KnownSolid f K (pos n)
  unfolding places
  solid_known n k all =
      let front : AllHold (record_places f (pos n) 0 solid (pos n)) = AllHold-append_left (record_places f (pos n) 0 solid (pos n))
      (after_each (shell_places f (pos n)) [] (shells f (pos n))) all in
      let e : IsEntity K (pos n) = (n, refl, k) in
      record {
        entity = e;
        kind = front.1.0;
        shells = all_after (shell_places f (pos n)) (PointedPair (IsPointer K)) (λ (i : ℤ × Bool). KnownShell f K i.0) (shell_item_known (pos n)) []
            (shells f (pos n)) (shell_pointers (pos n) e front.1.0)
            (AllHold-append_right (record_places f (pos n) 0 solid (pos n)) (after_each (shell_places f (pos n)) [] (shells f (pos n))) all);
      }

  -- ---- the places, one by one

  abbrev Q : Failing → Failing → Type 0
  Q = AreNamedAlike (renumbered (IsNew K new))

  named_alike : (z : ℤ) → IsEntity K z → (rule : Rule) (place : ℕ) (one other : Type 0) → one ↔ other
      → OneAlike Q (obligation rule (entry_number z) place one) (obligation rule (entry_number (g z)) place other)
  named_alike z e rule place one other same = (
    record {
      rule = refl;
      named = renumbered_named (IsNew K new) rule (entry_number z) place (entry_number (g z)) place (number_new f q K new g h z e) refl;
    },
    same,
  )

  record_alike : (e : ℤ) (place : ℕ) (kind : EntityKind) (z : ℤ) → IsEntity K e → IsPointer K z
      → FailAlike Q (record_places f e place kind z) (record_places q (g e) place kind (g z))
  record_alike e place kind z ent p =
      let names = named_alike e ent NoEntry place (Names f z) (Names q (g z)) (names_same f q K new g h z p) in
      let kinds = named_alike e ent WrongKind place (NamesKind kind f z) (NamesKind kind q (g z)) (kind_same f q K new g h kind z p) in (
        names.0,
        names.1,
        λ named. (
          kinds.0,
          kinds.1,
          λ is.
              let of_z : IsEntity K z = is_entity f q K new g h z p named in
              let t = tells f q K new g h kind z of_z is in
              let layouts = named_alike z of_z BadLayout 0 (HasRecordOf kind f z) (HasRecordOf kind q (g z)) (λ x. t.after, λ x. t.before) in
              (layouts.0, layouts.1, λ x. tt),
        ),
      )

  item_alike : (e : ℤ) (place : ℕ) (kind : EntityKind) (z j : ℤ) (n m : ℕ) → IsEntity K e → IsPointer K z → (IsEntity K z → NamesKind kind f z → m ≡ n)
      → FailAlike Q (item_places f e place kind z j n) (item_places q (g e) place kind (g z) j m)
  item_alike e place kind z j n m ent p same =
      append_alike Q (record_places f e place kind z) (obligation BadIndex (entry_number e) place (IsIndex j n) ∷ []) (record_places q (g e) place kind (g z))
      (obligation BadIndex (entry_number (g e)) place (IsIndex j m) ∷ []) (record_alike e place kind z ent p)
      (λ all.
      let count : m ≡ n = same (is_entity f q K new g h z p all.0) all.1.0 in
      let o = named_alike e ent BadIndex place (IsIndex j n) (IsIndex j m) (λ x. subst (IsIndex j) (sym count) x, λ x. subst (IsIndex j) count x) in
      (o.0, o.1, λ x. tt))

  edge_alike : (e : ℤ) (j : ℕ) → IsEntity K e → (o : Option EdgeTuple) → OptionAll (PointedEdge (IsPointer K)) o
      → FailAlike Q (edge_places f e j o) (edge_places q (g e) j (option_map (renamed_edge g) o))
  edge_alike e j ent None p = tt
  edge_alike e j ent (Some t) p =
      append_alike Q ((obligation BadGeometry (entry_number e) j (NamesGeometry f t.curve) ∷ []) ++ item_places f e j vertices t.start_list t.start_index
      (length (told vertices f t.start_list)))
      (item_places f e j vertices t.end_list t.end_index (length (told vertices f t.end_list)))
      ((obligation BadGeometry (entry_number (g e)) j (NamesGeometry q (g t.curve)) ∷ []) ++ item_places q (g e) j vertices (g t.start_list) t.start_index
      (length (told vertices q (g t.start_list))))
      (item_places q (g e) j vertices (g t.end_list) t.end_index (length (told vertices q (g t.end_list))))
      (append_alike Q (obligation BadGeometry (entry_number e) j (NamesGeometry f t.curve) ∷ [])
      (item_places f e j vertices t.start_list t.start_index (length (told vertices f t.start_list)))
      (obligation BadGeometry (entry_number (g e)) j (NamesGeometry q (g t.curve)) ∷ [])
      (item_places q (g e) j vertices (g t.start_list) t.start_index (length (told vertices q (g t.start_list))))
      (let o = named_alike e ent BadGeometry j (NamesGeometry f t.curve) (NamesGeometry q (g t.curve)) (geometry_same f q K new g h t.curve p.curve)
      in (o.0, o.1, λ x. tt))
      (λ all. item_alike e j vertices t.start_list t.start_index (length (told vertices f t.start_list)) (length (told vertices q (g t.start_list))) ent
      p.start (vertex_count t.start_list)))
      (λ all. item_alike e j vertices t.end_list t.end_index (length (told vertices f t.end_list)) (length (told vertices q (g t.end_list))) ent p.end
      (vertex_count t.end_list))

  used_alike : (l : ℤ) (place : ℕ) (b : Bool) (z j : ℤ) → IsEntity K l → IsPointer K z
      → FailAlike Q (used_places f l place z j b) (used_places q (g l) place (g z) j b)
  used_alike l place true z j ent p = item_alike l place vertices z j (length (told vertices f z)) (length (told vertices q (g z))) ent p (vertex_count z)
  used_alike l place false z j ent p =
      append_alike Q (item_places f l place edges z j (length (told edges f z))) (edge_places f z (entry_number j) (edge_at f z (entry_number j)))
      (item_places q (g l) place edges (g z) j (length (told edges q (g z)))) (edge_places q (g z) (entry_number j) (edge_at q (g z) (entry_number j)))
      (item_alike l place edges z j (length (told edges f z)) (length (told edges q (g z))) ent p (edge_count z))
      (λ all.
      let e : IsEntity K z = is_entity f q K new g h z p all.0 in
      subst (λ o. FailAlike Q (edge_places f z (entry_number j) (edge_at f z (entry_number j))) (edge_places q (g z) (entry_number j) o))
      (sym (edge_new z (entry_number j) e all.1.0))
      (edge_alike z (entry_number j) e (edge_at f z (entry_number j)) (edge_pointers z (entry_number j) e all.1.0)))

  curves_same : (cs : List (Bool × ℤ)) → AllByRecursion (PointedCurve (IsPointer K)) cs
      → AllByRecursion (λ (c : Bool × ℤ). NamesGeometry f c.1) cs ↔ AllByRecursion (λ (c : Bool × ℤ). NamesGeometry q c.1) (map (renamed_curve g) cs)
  curves_same [] p = (λ x. x, λ x. x)
  curves_same (c ∷ cs) p =
      let here = geometry_same f q K new g h c.1 p.0 in
      let rest = curves_same cs p.1 in
      (λ x. (here.0 x.0, rest.0 x.1), λ x. (here.1 x.0, rest.1 x.1))

  all_curves_same : (cs : List (Bool × ℤ)) → AllByRecursion (PointedCurve (IsPointer K)) cs
      → All (λ (c : Bool × ℤ). NamesGeometry f c.1) cs ↔ All (λ (c : Bool × ℤ). NamesGeometry q c.1) (map (renamed_curve g) cs)
  all_curves_same cs p = (
    λ x. All-from_recursion (λ (c : Bool × ℤ). NamesGeometry q c.1) (map (renamed_curve g) cs)
        ((curves_same cs p).0 (recursion_from_All (λ (c : Bool × ℤ). NamesGeometry f c.1) cs x)),
    λ x. All-from_recursion (λ (c : Bool × ℤ). NamesGeometry f c.1) cs
        ((curves_same cs p).1 (recursion_from_All (λ (c : Bool × ℤ). NamesGeometry q c.1) (map (renamed_curve g) cs) x)),
  )

  tuple_alike : (l : ℤ) (place : ℕ) (t : LoopTuple) → IsEntity K l → PointedTuple (IsPointer K) t
      → FailAlike Q (tuple_at f l place t) (tuple_at q (g l) place (renamed_tuple g t))
  tuple_alike l place t ent p =
      append_alike Q (used_places f l place t.«list» t.index t.is_vertex)
      (obligation BadGeometry (entry_number l) place (All (λ (c : Bool × ℤ). NamesGeometry f c.1) t.curves) ∷ [])
      (used_places q (g l) place (g t.«list») t.index t.is_vertex)
      (obligation BadGeometry (entry_number (g l)) place (All (λ (c : Bool × ℤ). NamesGeometry q c.1) (map (renamed_curve g) t.curves)) ∷ [])
      (used_alike l place t.is_vertex t.«list» t.index ent p.names)
      (λ all.
      let o = named_alike l ent BadGeometry place (All (λ (c : Bool × ℤ). NamesGeometry f c.1) t.curves)
      (All (λ (c : Bool × ℤ). NamesGeometry q c.1) (map (renamed_curve g) t.curves)) (all_curves_same t.curves p.curves) in
      (o.0, o.1, λ x. tt))

  tuple_step : (l : ℤ) → IsEntity K l → (before : List LoopTuple) (t : LoopTuple) → AllByRecursion (λ (x : LoopTuple). Unit {0}) before
      → PointedTuple (IsPointer K) t → FailAlike Q (tuple_places f l before t) (tuple_places q (g l) (map (renamed_tuple g) before) (renamed_tuple g t))
  unfolding tuple_places
  tuple_step l ent before t known p =
      subst (λ n. FailAlike Q (tuple_at f l (length before + 1) t) (tuple_at q (g l) (n + 1) (renamed_tuple g t))) (sym (length-map before (renamed_tuple g)))
      (tuple_alike l (length before + 1) t ent p)

  twice_same : (known : List ℤ) (z : ℤ) → AllByRecursion (IsPointer K) known → IsPointer K z → (¬ Contains known z) ↔ (¬ Contains (map g known) (g z))
  twice_same known z ks p = (λ no_one c. no_one (back c), λ no_one c. no_one (into c))
    where
      into : Contains known z → Contains (map g known) (g z)
      into c = Contains-from_Has (map g known) (g z) (map_has g known z (Has-from_Contains known z c))

      back : Contains (map g known) (g z) → Contains known z
      back c =
          let k = has_map g known (g z) (Has-from_Contains (map g known) (g z) c) in
          Contains-from_Has known z (subst (Has known) (pointers_apart f q K new g h k.0 z (All-at (IsPointer K) known ks k.0 k.1) p k.2) k.1)

  -- a record and that no place before names it
  fresh_alike : (e : ℤ) (place : ℕ) (kind : EntityKind) (known : List ℤ) (z : ℤ) → IsEntity K e → AllByRecursion (IsPointer K) known → IsPointer K z
      → FailAlike Q (record_places f e place kind z ++ (obligation Twice (entry_number e) place (¬ Contains known z) ∷ []))
      (record_places q (g e) place kind (g z) ++ (obligation Twice (entry_number (g e)) place (¬ Contains (map g known) (g z)) ∷ []))
  fresh_alike e place kind known z ent ks p =
      append_alike Q (record_places f e place kind z) (obligation Twice (entry_number e) place (¬ Contains known z) ∷ [])
      (record_places q (g e) place kind (g z)) (obligation Twice (entry_number (g e)) place (¬ Contains (map g known) (g z)) ∷ [])
      (record_alike e place kind z ent p)
      (λ all. let o = named_alike e ent Twice place (¬ Contains known z) (¬ Contains (map g known) (g z)) (twice_same known z ks p) in (o.0, o.1, λ x. tt))

  loop_alike : (c : ℤ) (place : ℕ) (known : List ℤ) (l : ℤ) → IsEntity K c → AllByRecursion (IsPointer K) known → IsPointer K l
      → FailAlike Q (loop_at f c place known l) (loop_at q (g c) place (map g known) (g l))
  loop_alike c place known l ent ks p =
      append_alike Q (record_places f c place «loop» l ++ (obligation Twice (entry_number c) place (¬ Contains known l) ∷ []))
      (after_each (tuple_places f l) [] (tuples f l))
      (record_places q (g c) place «loop» (g l) ++ (obligation Twice (entry_number (g c)) place (¬ Contains (map g known) (g l)) ∷ []))
      (after_each (tuple_places q (g l)) [] (tuples q (g l)))
      (fresh_alike c place «loop» known l ent ks p)
      (λ all.
      let e : IsEntity K l = is_entity f q K new g h l p all.0 in
      subst (λ ts. FailAlike Q (after_each (tuple_places f l) [] (tuples f l)) (after_each (tuple_places q (g l)) [] ts)) (sym (tuples_new l e all.1.0))
      (after_alike Q (renamed_tuple g) (tuple_places f l) (tuple_places q (g l)) (PointedTuple (IsPointer K)) (λ (x : LoopTuple). Unit {0}) (tuple_step l e)
      (λ before t good holds. tt) [] (tuples f l) tt (tuple_pointers l e all.1.0)))

  loop_step : (c : ℤ) (used : List ℤ) → IsEntity K c → AllByRecursion (IsPointer K) used → (before : List ℤ) (l : ℤ) → AllByRecursion (IsPointer K) before
      → IsPointer K l → FailAlike Q (loop_places f c used before l) (loop_places q (g c) (map g used) (map g before) (g l))
  unfolding loop_places
  loop_step c used ent us before l bs p =
      subst (λ n. FailAlike Q (loop_at f c (length before + 1) (used ++ before) l) (loop_at q (g c) (n + 1) (map g used ++ map g before) (g l)))
      (sym (length-map before g))
      (subst (λ zs. FailAlike Q (loop_at f c (length before + 1) (used ++ before) l) (loop_at q (g c) (length before + 1) zs (g l))) (map-append g used before)
      (loop_alike c (length before + 1) (used ++ before) l ent (all_append (IsPointer K) used before us bs) p))

  -- the loops of known faces, and the faces of known shells
  pub loops_known : (known : List ℤ) → AllByRecursion (KnownFace f K) known → flat_map (loops q) (map g known) ≡ map g (flat_map (loops f) known)
  loops_known known ks = flat_known (KnownFace f K) g (loops f) (loops q) g (λ c k. loops_new c k.entity k.kind) known ks

  loops_pointers : (known : List ℤ) → AllByRecursion (KnownFace f K) known → AllByRecursion (IsPointer K) (flat_map (loops f) known)
  loops_pointers known ks =
      all_flat_map (IsPointer K) (loops f) known
      (λ c m. let k : KnownFace f K c = All-at (KnownFace f K) known ks c m in AllByRecursion-weaker (KnownLoop f K) (IsPointer K) (loops f c)
      (λ l j. inr j.entity) k.loops)

  pub faces_known : (known : List ℤ) → AllByRecursion (KnownShell f K) known → flat_map (λ b. numbers (faces q b)) (map g known)
      ≡ map g (flat_map (λ b. numbers (faces f b)) known)
  faces_known known ks =
      flat_known (KnownShell f K) g (λ b. numbers (faces f b)) (λ b. numbers (faces q b)) g
      (λ s k. ap numbers (faces_new s k.entity k.kind) ∙ numbers_renamed g (faces f s)) known ks

  pub all_faces_known : (known : List ℤ) → AllByRecursion (KnownShell f K) known → AllByRecursion (KnownFace f K) (flat_map (λ b. numbers (faces f b)) known)
  all_faces_known known ks =
      all_flat_map (KnownFace f K) (λ b. numbers (faces f b)) known
      (λ s m. let k : KnownShell f K s = All-at (KnownShell f K) known ks s m in numbers_all (KnownFace f K) (faces f s) k.faces)

  face_alike : (s : ℤ) (place : ℕ) (known : List ℤ) (c : ℤ) → IsEntity K s → AllByRecursion (KnownFace f K) known → IsPointer K c
      → FailAlike Q (face_at f s place known c) (face_at q (g s) place (map g known) (g c))
  face_alike s place known c ent ks p =
      let pointers : AllByRecursion (IsPointer K) known = AllByRecursion-weaker (KnownFace f K) (IsPointer K) known (λ z k. inr k.entity) ks in
      append_alike Q (face_front s place known c) (after_each (loop_places f c (flat_map (loops f) known)) [] (loops f c)) new_front
      (after_each (loop_places q (g c) (flat_map (loops q) (map g known))) [] (loops q (g c)))
      (append_alike Q (record_places f s place face c) (obligation Twice (entry_number s) place (¬ Contains known c) ∷ geometry ∷ [])
      (record_places q (g s) place face (g c)) (obligation Twice (entry_number (g s)) place (¬ Contains (map g known) (g c)) ∷ new_geometry ∷ [])
      (record_alike s place face c ent p)
      (λ all.
      let o = named_alike s ent Twice place (¬ Contains known c) (¬ Contains (map g known) (g c)) (twice_same known c pointers p) in
      (o.0, o.1, λ x. let w = surface_alike (is_entity f q K new g h c p all.0) all.1.0 in (w.0, w.1, λ y. tt))))
      (λ all. after_front (is_entity f q K new g h c p all.0) all.1.0)
    where
      geometry : Obligation
      geometry = obligation BadGeometry (entry_number c) 0 (let items = told face f c in NamesGeometry f items.surface)

      new_geometry : Obligation
      new_geometry = obligation BadGeometry (entry_number (g c)) 0 (let items = told face q (g c) in NamesGeometry q items.surface)

      new_front : List Obligation
      new_front = record_places q (g s) place face (g c) ++ (obligation Twice (entry_number (g s)) place (¬ Contains (map g known) (g c)) ∷ new_geometry ∷ [])

      surface_alike : IsEntity K c → NamesKind face f c → OneAlike Q geometry new_geometry
      surface_alike e n =
          let t = tells f q K new g h face c e n in
          subst (λ (i : FaceItems). OneAlike Q geometry (obligation BadGeometry (entry_number (g c)) 0 (NamesGeometry q i.surface))) (sym t.same)
          (named_alike c e BadGeometry 0 (let items = told face f c in NamesGeometry f items.surface)
          (let items = told face f c in NamesGeometry q (g items.surface))
          (let items = told face f c in geometry_same f q K new g h items.surface (surface_pointer c e n)))

      after_front : IsEntity K c → NamesKind face f c → FailAlike Q (after_each (loop_places f c (flat_map (loops f) known)) [] (loops f c))
          (after_each (loop_places q (g c) (flat_map (loops q) (map g known))) [] (loops q (g c)))
      after_front e n =
          subst (λ us. FailAlike Q (after_each (loop_places f c (flat_map (loops f) known)) [] (loops f c))
          (after_each (loop_places q (g c) us) [] (loops q (g c)))) (sym (loops_known known ks))
          (subst (λ ls. FailAlike Q (after_each (loop_places f c (flat_map (loops f) known)) [] (loops f c))
          (after_each (loop_places q (g c) (map g (flat_map (loops f) known))) [] ls)) (sym (loops_new c e n))
          (after_alike Q g (loop_places f c (flat_map (loops f) known)) (loop_places q (g c) (map g (flat_map (loops f) known))) (IsPointer K) (IsPointer K)
          (loop_step c (flat_map (loops f) known) e (loops_pointers known ks)) (λ before l good holds. good) [] (loops f c) tt (loop_pointers c e n)))

  face_step : (s : ℤ) (used : List ℤ) → IsEntity K s → AllByRecursion (KnownFace f K) used → (before : List (ℤ × Bool)) (i : ℤ × Bool)
      → AllByRecursion (λ (j : ℤ × Bool). KnownFace f K j.0) before → PointedPair (IsPointer K) i
      → FailAlike Q (face_places f s used before i) (face_places q (g s) (map g used) (map (renamed_pair g) before) (renamed_pair g i))
  unfolding face_places
  face_step s used ent us before i bs p =
      subst (λ n. FailAlike Q (face_at f s (length before + 1) (used ++ numbers before) i.0)
      (face_at q (g s) (n + 1) (map g used ++ numbers (map (renamed_pair g) before)) (g i.0))) (sym (length-map before (renamed_pair g)))
      (subst (λ zs. FailAlike Q (face_at f s (length before + 1) (used ++ numbers before) i.0) (face_at q (g s) (length before + 1) zs (g i.0)))
      (map-append g used (numbers before) ∙ ap (λ zs. map g used ++ zs) (sym (numbers_renamed g before)))
      (face_alike s (length before + 1) (used ++ numbers before) i.0 ent
      (all_append (KnownFace f K) used (numbers before) us (numbers_all (KnownFace f K) before bs)) p))

  shell_alike : (n : ℤ) (place : ℕ) (known : List ℤ) (s : ℤ) → IsEntity K n → AllByRecursion (KnownShell f K) known → IsPointer K s
      → FailAlike Q (shell_at f n place known s) (shell_at q (g n) place (map g known) (g s))
  shell_alike n place known s ent ks p =
      append_alike Q (shell_front n place known s) (after_each (face_places f s (flat_map (λ b. numbers (faces f b)) known)) [] (faces f s))
      (record_places q (g n) place shell (g s) ++ (obligation Twice (entry_number (g n)) place (¬ Contains (map g known) (g s)) ∷ []))
      (after_each (face_places q (g s) (flat_map (λ b. numbers (faces q b)) (map g known))) [] (faces q (g s)))
      (fresh_alike n place shell known s ent (AllByRecursion-weaker (KnownShell f K) (IsPointer K) known (λ z k. inr k.entity) ks) p)
      (λ all. after_front (is_entity f q K new g h s p all.0) all.1.0)
    where
      used : List ℤ
      used = flat_map (λ b. numbers (faces f b)) known

      after_front : IsEntity K s → NamesKind shell f s → FailAlike Q (after_each (face_places f s (flat_map (λ b. numbers (faces f b)) known)) [] (faces f s))
          (after_each (face_places q (g s) (flat_map (λ b. numbers (faces q b)) (map g known))) [] (faces q (g s)))
      after_front e k =
          subst (λ us. FailAlike Q (after_each (face_places f s used) [] (faces f s)) (after_each (face_places q (g s) us) [] (faces q (g s))))
          (sym (faces_known known ks))
          (subst (λ is. FailAlike Q (after_each (face_places f s used) [] (faces f s)) (after_each (face_places q (g s) (map g used)) [] is))
          (sym (faces_new s e k))
          (after_alike Q (renamed_pair g) (face_places f s used) (face_places q (g s) (map g used)) (PointedPair (IsPointer K))
          (λ (i : ℤ × Bool). KnownFace f K i.0) (face_step s used e (all_faces_known known ks)) (face_item_known s used) [] (faces f s) tt
          (face_pointers s e k)))

  shell_step : (n : ℤ) → IsEntity K n → (before : List (ℤ × Bool)) (i : ℤ × Bool) → AllByRecursion (λ (j : ℤ × Bool). KnownShell f K j.0) before
      → PointedPair (IsPointer K) i
      → FailAlike Q (shell_places f n before i) (shell_places q (g n) (map (renamed_pair g) before) (renamed_pair g i))
  unfolding shell_places
  shell_step n ent before i bs p =
      subst (λ k. FailAlike Q (shell_at f n (length before + 1) (numbers before) i.0)
      (shell_at q (g n) (k + 1) (numbers (map (renamed_pair g) before)) (g i.0))) (sym (length-map before (renamed_pair g)))
      (subst (λ zs. FailAlike Q (shell_at f n (length before + 1) (numbers before) i.0) (shell_at q (g n) (length before + 1) zs (g i.0)))
      (sym (numbers_renamed g before))
      (shell_alike n (length before + 1) (numbers before) i.0 ent (numbers_all (KnownShell f K) before bs) p))

  pub places_alike : (n : ℕ) → K n → FailAlike Q (places f n) (places q (new n))
  unfolding places
  places_alike n k =
      subst (λ z. FailAlike Q (record_places f (pos n) 0 solid (pos n) ++ after_each (shell_places f (pos n)) [] (shells f (pos n)))
      (record_places q z 0 solid z ++ after_each (shell_places q z) [] (shells q z))) (h.something n k)
      (append_alike Q (record_places f (pos n) 0 solid (pos n)) (after_each (shell_places f (pos n)) [] (shells f (pos n)))
      (record_places q (g (pos n)) 0 solid (g (pos n))) (after_each (shell_places q (g (pos n))) [] (shells q (g (pos n))))
      (record_alike (pos n) 0 solid (pos n) e (inr e))
      (λ all.
      subst (λ is. FailAlike Q (after_each (shell_places f (pos n)) [] (shells f (pos n))) (after_each (shell_places q (g (pos n))) [] is))
      (sym (shells_new (pos n) e all.1.0))
      (after_alike Q (renamed_pair g) (shell_places f (pos n)) (shell_places q (g (pos n))) (PointedPair (IsPointer K)) (λ (i : ℤ × Bool). KnownShell f K i.0)
      (shell_step (pos n) e) (shell_item_known (pos n)) [] (shells f (pos n)) tt (shell_pointers (pos n) e all.1.0))))
    where
      e : IsEntity K (pos n)
      e = (n, refl, k)
