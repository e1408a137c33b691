-- Places that hold still hold with other flags.
use Rattle.std.specs.Prelude.{◌≡◌, ℕ, ◌+◌, ◌-◌, slice_get, Bool, true, false, ℤ, pos, negsuc, List, [], ◌∷◌, ◌++◌, length, flat_map, All, Option, Some}
use Rattle.std.specs.Prelude.{None, IsSome, IsSomeAnd, option_map, ⊤}
use Rattle.std.specs.List.{AllByRecursion}
use Rattle.std.specs.Ordering.{int_eq}
use Rattle.std.proofs.Common.{refl, sym, ◌∙◌, ap, subst}
use Rattle.std.proofs.lemmas.List.{length-map, map-append}
use Rattle.std.proofs.lemmas.List.Elements.{All-from_recursion, recursion_from_All}
use Rattle.iges_params.specs.Contents.{Contents}
use Rattle.iges_params.specs.Named.{named, record_values}
use Rattle.brep_lists.specs.Record.{type_number, HasForm, LoopTuple, SolidItems, FaceItems, items_of, IsRecordOf}
use Rattle.brep_lists.specs.declared.entity_kind.EntityKind.{EntityKind}
use Rattle.brep_lists.specs.declared.entity_kind.EntityKind.TheVariants.{Solid as solid, Shell as shell, Face as face, Loop as «loop», EdgeList as edges}
use Rattle.brep_lists.specs.declared.entity_kind.EntityKind.TheVariants.{VertexList as vertices}
use Rattle.brep_lists.specs.declared.edge_list.EdgeTuple.{EdgeTuple}
use Rattle.entry_references.specs.Refs.{Record}
use Rattle.solid_data.specs.Obligations.{Obligation, obligation, entry_number, AllHold, after_each}
use Rattle.solid_data.specs.declared.verdict.Rule.TheVariants.{BadGeometry}
use Rattle.solid_data.proofs.Members.{all_append}
use Rattle.solid_data.proofs.ObligationLemmas.{AllHold-append, AllHold-append_left, AllHold-append_right, AllByRecursion-weaker}
use Rattle.brep_walk.specs.Places.{told, shells, faces, loops, tuples, numbers, edge_at, Names, NamesKind, HasRecordOf, NamesGeometry}
use Rattle.brep_walk.specs.Places.{item_places, edge_places, used_places, tuple_at, tuple_places, loop_at, loop_places, face_at, face_places, shell_at}
use Rattle.brep_walk.specs.Places.{shell_places, places}
use Rattle.solid_reorient.specs.Reflagged.{values_with, flags_for, reflagged_values, reflagged}
use Rattle.solid_reorient.specs.Turned.{ReflaggedPlaces}
use Rattle.solid_reorient.proofs.Entries.{as_reflagged, shells_of, names_reflagged, named_as, other_stays, shell_changes}
use Rattle.solid_reorient.proofs.ShellValues.{faces_flagged, numbers_flagged, items_flagged, still_record}

-- ---- lists of obligations

-- the same items, of which those before are known
after_still : {A : Type 0} (F G : List A → A → List Obligation) (Known : A → Type 0)
    → ((before : List A) (x : A) → AllByRecursion Known before → AllHold (F before x) → Known x × AllHold (G before x))
    → (before xs : List A) → AllByRecursion Known before → AllHold (after_each F before xs) → AllByRecursion Known xs × AllHold (after_each G before xs)
after_still F G Known step before [] known all = (tt, tt)
after_still F G Known step before (x ∷ xs) known all =
    let here = step before x known (AllHold-append_left (F before x) (after_each F (before ++ x ∷ []) xs) all) in
    let rest = after_still F G Known step (before ++ x ∷ []) xs (all_append Known before (x ∷ []) known (here.0, tt))
    (AllHold-append_right (F before x) (after_each F (before ++ x ∷ []) xs) all) in
    ((here.0, rest.0), AllHold-append (G before x) (after_each G (before ++ x ∷ []) xs) here.1 rest.1)

pub flat_same : {A B : Type 0} (F G : A → List B) (xs : List A) → AllByRecursion (λ x. G x ≡ F x) xs → flat_map G xs ≡ flat_map F xs
flat_same F G [] all = refl
flat_same F G (x ∷ xs) all = ap (λ ys. ys ++ flat_map G xs) all.0 ∙ ap (λ ys. F x ++ ys) (flat_same F G xs all.1)

pub numbers_all : (P : ℤ → Type 0) (items : List (ℤ × Bool)) → AllByRecursion (λ (i : ℤ × Bool). P i.0) items → AllByRecursion P (numbers items)
numbers_all P [] h = tt
numbers_all P (i ∷ items) h = (h.0, numbers_all P items h.1)

-- the obligations of faces read their numbers alone
face_by_number : (f : Contents) (s : ℤ) (used : List ℤ) (before after : List (ℤ × Bool)) (i j : ℤ × Bool) → numbers before ≡ numbers after → i.0 ≡ j.0
    → AllHold (face_places f s used before i) → AllHold (face_places f s used after j)
unfolding face_places
face_by_number f s used before after i j e is all =
    let long : length before ≡ length after = sym (length-map before (λ (x : ℤ × Bool). x.0)) ∙ (ap length e ∙ length-map after (λ (x : ℤ × Bool). x.0)) in
    subst (λ c. AllHold (face_at f s (length after + 1) (used ++ numbers after) c)) is
    (subst (λ (zs : List ℤ). AllHold (face_at f s (length after + 1) (used ++ zs) i.0)) e
    (subst (λ n. AllHold (face_at f s (n + 1) (used ++ numbers before) i.0)) long all))

faces_by_number : (f : Contents) (s : ℤ) (used : List ℤ) (before after is js : List (ℤ × Bool)) → numbers before ≡ numbers after → numbers is ≡ numbers js
    → AllHold (after_each (face_places f s used) before is) → AllHold (after_each (face_places f s used) after js)
faces_by_number f s used before after [] [] b e all = tt
faces_by_number f s used before after [] (j ∷ js) b e all = absurd cc
faces_by_number f s used before after (i ∷ is) [] b e all = absurd cc
faces_by_number f s used before after (i ∷ is) (j ∷ js) b e all =
    let here : i.0 ≡ j.0 = cc in
    let rest : numbers is ≡ numbers js = cc in
    let more : numbers (before ++ i ∷ []) ≡ numbers (after ++ j ∷ []) =
    map-append (λ (x : ℤ × Bool). x.0) before (i ∷ [])
    ∙ (ap (λ (zs : List ℤ). zs ++ i.0 ∷ []) b ∙ (ap (λ z. numbers after ++ z ∷ []) here ∙ sym (map-append (λ (x : ℤ × Bool). x.0) after (j ∷ [])))) in
    AllHold-append (face_places f s used after j) (after_each (face_places f s used) (after ++ j ∷ []) js)
    (face_by_number f s used before after i j b here
    (AllHold-append_left (face_places f s used before i) (after_each (face_places f s used) (before ++ i ∷ []) is) all))
    (faces_by_number f s used (before ++ i ∷ []) (after ++ j ∷ []) is js more rest
    (AllHold-append_right (face_places f s used before i) (after_each (face_places f s used) (before ++ i ∷ []) is) all))

-- ---- entries

-- a number names a record of a kind
pub record At (g : Contents) (kind : EntityKind) (z : ℤ) : Type 0 where
  pub entry : Record
  pub at : named g z ≡ Some entry
  pub number : z ≡ pos (entry_number z)
  pub typed : entry.0.kind ≡ type_number kind
  pub is : IsRecordOf kind entry.1

pub at_from : (g : Contents) (kind : EntityKind) (z : ℤ) → NamesKind kind g z → HasRecordOf kind g z → At g kind z
at_from g kind (negsuc m) k h = absurd k
at_from g kind (pos m) k h = by_option (named g (pos m)) refl k h
  where
    by_option : (o : Option Record) → named g (pos m) ≡ o → IsSomeAnd o (λ e. (e.0.kind ≡ type_number kind) × HasForm kind e.0.form)
        → IsSomeAnd o (λ e. IsRecordOf kind e.1) → At g kind (pos m)
    by_option None e a b = absurd a
    by_option (Some r) e a b = record { entry = r; at = e; number = refl; typed = a.0; is = b }

-- a kind other than a shell's
abbrev pub IsOther : EntityKind → Type 0
IsOther kind = int_eq (type_number kind) (type_number shell) ≡ false

module _ (g : Contents) (n : ℕ) (flags : List (List Bool)) where
  abbrev pub d : Contents
  d = reflagged g n flags

  -- the flags for an entry
  abbrev pub new_flags : ℤ → List Bool
  new_flags z = flags_for flags (shells_of g n flags) (entry_number z)

  names_still : (z : ℤ) → Names g z → Names d z
  names_still z h = subst IsSome (sym (names_reflagged g n flags z)) (by_option (named g z) h)
    where
      by_option : (o : Option Record) → IsSome o → IsSome (option_map (as_reflagged flags (shells_of g n flags) (entry_number z)) o)
      by_option None k = k
      by_option (Some r) k = refl

  kind_still : (kind : EntityKind) (z : ℤ) → NamesKind kind g z → NamesKind kind d z
  kind_still kind z h = subst (λ o. IsSomeAnd o (λ e. (e.0.kind ≡ type_number kind) × HasForm kind e.0.form)) (sym (names_reflagged g n flags z))
      (by_option (named g z) h)
    where
      by_option : (o : Option Record) → IsSomeAnd o (λ e. (e.0.kind ≡ type_number kind) × HasForm kind e.0.form)
          → IsSomeAnd (option_map (as_reflagged flags (shells_of g n flags) (entry_number z)) o) (λ e. (e.0.kind ≡ type_number kind) × HasForm kind e.0.form)
      by_option None k = k
      by_option (Some r) k = k

  geometry_still : (z : ℤ) → NamesGeometry g z → NamesGeometry d z
  geometry_still z h = subst (λ o. IsSomeAnd o (λ e. (kind : EntityKind) → ¬ (e.0.kind ≡ type_number kind))) (sym (names_reflagged g n flags z))
      (by_option (named g z) h)
    where
      by_option : (o : Option Record) → IsSomeAnd o (λ e. (kind : EntityKind) → ¬ (e.0.kind ≡ type_number kind))
          → IsSomeAnd (option_map (as_reflagged flags (shells_of g n flags) (entry_number z)) o) (λ e. (kind : EntityKind) → ¬ (e.0.kind ≡ type_number kind))
      by_option None k = k
      by_option (Some r) k = k

  -- an entry of another kind than a shell's is the same
  abbrev pub Same : ℤ → Type 0
  Same z = named d z ≡ named g z

  pub same_at : (kind : EntityKind) → IsOther kind → (z : ℤ) → At g kind z → Same z
  same_at kind other z a =
      let r : Record = a.entry in
      named_as g n flags z a.entry a.at
      ∙ (ap (λ vs. let q : Record = (a.entry.0, vs) in Some q) (other_stays (new_flags z) a.entry (ap (λ k. int_eq k (type_number shell)) a.typed ∙ other))
      ∙ sym a.at)

  pub told_same : (kind : EntityKind) (z : ℤ) → Same z → told kind d z ≡ told kind g z
  told_same kind z e = ap (λ (o : Option Record). items_of kind (record_values o)) e

  record_same : (kind : EntityKind) → IsOther kind → (e : ℤ) (p : ℕ) (z : ℤ) → Names g z → NamesKind kind g z → HasRecordOf kind g z
      → Same z × HasRecordOf kind d z
  record_same kind other e p z a b c = let s = same_at kind other z (at_from g kind z b c) in
      (s, subst (λ (o : Option Record). IsSomeAnd o (λ r. IsRecordOf kind r.1)) (sym s) c)

  -- ---- items of lists

  item_holds : (kind : EntityKind) → IsOther kind → (e : ℤ) (p : ℕ) (z i : ℤ) (m : ℕ) → AllHold (item_places g e p kind z i m)
      → Same z × AllHold (item_places d e p kind z i m)
  item_holds kind other e p z i m all =
      let k = record_same kind other e p z all.0 all.1.0 all.1.1.0 in
      (k.0, (names_still z all.0, (kind_still kind z all.1.0, (k.1, (all.1.1.1.0, tt)))))

  vertex_holds : (e : ℤ) (p : ℕ) (z i : ℤ) → AllHold (item_places g e p vertices z i (length (told vertices g z)))
      → AllHold (item_places d e p vertices z i (length (told vertices d z)))
  vertex_holds e p z i all =
      let k = item_holds vertices refl e p z i (length (told vertices g z)) all in
      subst (λ (m : ℕ). AllHold (item_places d e p vertices z i m)) (sym (ap length (told_same vertices z k.0))) k.1

  edge_holds : (e : ℤ) (j : ℕ) (o : Option EdgeTuple) → AllHold (edge_places g e j o) → AllHold (edge_places d e j o)
  edge_holds e j None all = all
  edge_holds e j (Some t) all = (
    geometry_still t.curve all.0,
    AllHold-append (item_places d e j vertices t.start_list t.start_index (length (told vertices d t.start_list)))
        (item_places d e j vertices t.end_list t.end_index (length (told vertices d t.end_list)))
        (vertex_holds e j t.start_list t.start_index
        (AllHold-append_left (item_places g e j vertices t.start_list t.start_index (length (told vertices g t.start_list)))
        (item_places g e j vertices t.end_list t.end_index (length (told vertices g t.end_list))) all.1))
        (vertex_holds e j t.end_list t.end_index
        (AllHold-append_right (item_places g e j vertices t.start_list t.start_index (length (told vertices g t.start_list)))
        (item_places g e j vertices t.end_list t.end_index (length (told vertices g t.end_list))) all.1)),
  )

  -- ---- tuples

  -- the list of an edge that is used is the same, by its number too
  abbrev pub SameUse : Bool → ℤ → Type 0
  SameUse true z = ⊤
  SameUse false z = Same z × Same (pos (entry_number z))

  abbrev pub SameTuple : LoopTuple → Type 0
  SameTuple t = SameUse t.is_vertex t.«list»

  use_holds : (l : ℤ) (p : ℕ) (z i : ℤ) (b : Bool) → AllHold (used_places g l p z i b) → SameUse b z × AllHold (used_places d l p z i b)
  use_holds l p z i true all = (tt, vertex_holds l p z i all)
  use_holds l p z i false all =
      let item = AllHold-append_left (item_places g l p edges z i (length (told edges g z))) (edge_places g z (entry_number i) (edge_at g z (entry_number i)))
      all in
      let ends = AllHold-append_right (item_places g l p edges z i (length (told edges g z))) (edge_places g z (entry_number i) (edge_at g z (entry_number i)))
      all in
      let k = item_holds edges refl l p z i (length (told edges g z)) item in
      let a : At g edges z = at_from g edges z item.1.0 item.1.1.0 in
      let t : told edges d z ≡ told edges g z = told_same edges z k.0 in (
        (k.0, subst Same a.number k.0),
        AllHold-append (item_places d l p edges z i (length (told edges d z))) (edge_places d z (entry_number i) (edge_at d z (entry_number i)))
            (subst (λ (m : ℕ). AllHold (item_places d l p edges z i m)) (sym (ap length t)) k.1)
            (subst (λ (ts : List EdgeTuple). AllHold (edge_places d z (entry_number i) (slice_get ts (entry_number i - 1)))) (sym t)
            (edge_holds z (entry_number i) (edge_at g z (entry_number i)) ends)),
      )

  curves_hold : (cs : List (Bool × ℤ)) → All (λ (c : Bool × ℤ). NamesGeometry g c.1) cs → All (λ (c : Bool × ℤ). NamesGeometry d c.1) cs
  curves_hold cs h =
      All-from_recursion (λ (c : Bool × ℤ). NamesGeometry d c.1) cs
      (AllByRecursion-weaker (λ (c : Bool × ℤ). NamesGeometry g c.1) (λ (c : Bool × ℤ). NamesGeometry d c.1) cs (λ c k. geometry_still c.1 k)
      (recursion_from_All (λ (c : Bool × ℤ). NamesGeometry g c.1) cs h))

  tuple_holds : (l : ℤ) (p : ℕ) (t : LoopTuple) → AllHold (tuple_at g l p t) → SameTuple t × AllHold (tuple_at d l p t)
  tuple_holds l p t all =
      let uses = AllHold-append_left (used_places g l p t.«list» t.index t.is_vertex)
      (obligation BadGeometry (entry_number l) p (All (λ (c : Bool × ℤ). NamesGeometry g c.1) t.curves) ∷ []) all in
      let curves : AllHold (obligation BadGeometry (entry_number l) p (All (λ (c : Bool × ℤ). NamesGeometry g c.1) t.curves) ∷ []) =
      AllHold-append_right (used_places g l p t.«list» t.index t.is_vertex)
      (obligation BadGeometry (entry_number l) p (All (λ (c : Bool × ℤ). NamesGeometry g c.1) t.curves) ∷ []) all in
      let k = use_holds l p t.«list» t.index t.is_vertex uses in (
        k.0,
        AllHold-append (used_places d l p t.«list» t.index t.is_vertex)
            (obligation BadGeometry (entry_number l) p (All (λ (c : Bool × ℤ). NamesGeometry d c.1) t.curves) ∷ []) k.1 (curves_hold t.curves curves.0, tt),
      )

  tuple_step : (l : ℤ) (before : List LoopTuple) (t : LoopTuple) → AllByRecursion SameTuple before → AllHold (tuple_places g l before t)
      → SameTuple t × AllHold (tuple_places d l before t)
  unfolding tuple_places
  tuple_step l before t known all = tuple_holds l (length before + 1) t all

  -- ---- loops, faces, shells

  pub record SameLoop (l : ℤ) : Type 0 where
    pub same : tuples d l ≡ tuples g l
    pub uses : AllByRecursion SameTuple (tuples g l)

  loop_holds : (c : ℤ) (p : ℕ) (known : List ℤ) (l : ℤ) → AllHold (loop_at g c p known l) → SameLoop l × AllHold (loop_at d c p known l)
  loop_holds c p known l all =
      let k = record_same «loop» refl c p l all.0 all.1.0 all.1.1.0 in
      let t : tuples d l ≡ tuples g l = told_same «loop» l k.0 in
      let after : AllHold (after_each (tuple_places g l) [] (tuples g l)) = all.1.1.1.1 in
      let still = after_still (tuple_places g l) (tuple_places d l) SameTuple (tuple_step l) [] (tuples g l) tt after in (
        record { same = t; uses = still.0 },
        (names_still l all.0, (kind_still «loop» l all.1.0, (k.1, (all.1.1.1.0, subst (λ ts. AllHold (after_each (tuple_places d l) [] ts)) (sym t) still.1)))),
      )

  loop_step : (c : ℤ) (used before : List ℤ) (l : ℤ) → AllByRecursion SameLoop before → AllHold (loop_places g c used before l)
      → SameLoop l × AllHold (loop_places d c used before l)
  unfolding loop_places
  loop_step c used before l known all = loop_holds c (length before + 1) (used ++ before) l all

  pub record SameFace (c : ℤ) : Type 0 where
    pub same : loops d c ≡ loops g c
    pub loops_same : AllByRecursion SameLoop (loops g c)

  face_holds : (s : ℤ) (p : ℕ) (known : List ℤ) (c : ℤ) → AllByRecursion SameFace known → AllHold (face_at g s p known c)
      → SameFace c × AllHold (face_at d s p known c)
  face_holds s p known c ks all =
      let k = record_same face refl s p c all.0 all.1.0 all.1.1.0 in
      let t : told face d c ≡ told face g c = told_same face c k.0 in
      let same : loops d c ≡ loops g c = ap (λ (i : FaceItems). i.loops) t in
      let used : flat_map (loops d) known ≡ flat_map (loops g) known = flat_same (loops g) (loops d) known
      (AllByRecursion-weaker SameFace (λ b. loops d b ≡ loops g b) known (λ b k. k.same) ks) in
      let after : AllHold (after_each (loop_places g c (flat_map (loops g) known)) [] (loops g c)) = all.1.1.1.1.1 in
      let still = after_still (loop_places g c (flat_map (loops g) known)) (loop_places d c (flat_map (loops g) known)) SameLoop
      (loop_step c (flat_map (loops g) known)) [] (loops g c) tt after in (
        record { same = same; loops_same = still.0 },
        (
          names_still c all.0,
          (
            kind_still face c all.1.0,
            (
              k.1,
              (
                all.1.1.1.0,
                (
                  subst (λ (i : FaceItems). NamesGeometry d i.surface) (sym t) (geometry_still (let items = told face g c in items.surface) all.1.1.1.1.0),
                  subst (λ us. AllHold (after_each (loop_places d c us) [] (loops d c))) (sym used)
                      (subst (λ ls. AllHold (after_each (loop_places d c (flat_map (loops g) known)) [] ls)) (sym same) still.1),
                ),
              ),
            ),
          ),
        ),
      )

  face_step : (s : ℤ) (used : List ℤ) → AllByRecursion SameFace used → (before : List (ℤ × Bool)) (i : ℤ × Bool)
      → AllByRecursion (λ (j : ℤ × Bool). SameFace j.0) before → AllHold (face_places g s used before i)
      → SameFace i.0 × AllHold (face_places d s used before i)
  unfolding face_places
  face_step s used us before i bs all = face_holds s (length before + 1) (used ++ numbers before) i.0
      (all_append SameFace used (numbers before) us (numbers_all SameFace before bs)) all

  -- the shell lists the same faces, with the flags that are for it
  pub record SameShell (s : ℤ) : Type 0 where
    pub at : At g shell s
    pub number : s ≡ pos (entry_number s)
    pub same : faces d s ≡ faces_flagged (new_flags s) (faces g s)
    pub faces_same : AllByRecursion SameFace (numbers (faces g s))

  pub same_numbers : (s : ℤ) → SameShell s → numbers (faces d s) ≡ numbers (faces g s)
  same_numbers s k = ap numbers k.same ∙ numbers_flagged (new_flags s) (faces g s)

  pub faces_known : (known : List ℤ) → AllByRecursion SameShell known → AllByRecursion SameFace (flat_map (λ b. numbers (faces g b)) known)
  faces_known [] ks = tt
  faces_known (s ∷ known) ks = let k : SameShell s = ks.0 in all_append SameFace (numbers (faces g s)) (flat_map (λ b. numbers (faces g b)) known) k.faces_same
      (faces_known known ks.1)

  shell_told : (s : ℤ) → At g shell s → (faces d s ≡ faces_flagged (new_flags s) (faces g s)) × HasRecordOf shell d s
  shell_told s a =
      let there : named d s ≡ Some (as_reflagged flags (shells_of g n flags) (entry_number s) a.entry) = named_as g n flags s a.entry a.at in
      let values : reflagged_values (new_flags s) a.entry ≡ values_with (new_flags s) a.entry.1 = shell_changes (new_flags s) a.entry
      (ap (λ k. int_eq k (type_number shell)) a.typed) in (
        ap (λ (o : Option Record). items_of shell (record_values o)) there
            ∙ (ap (items_of shell) values ∙ (items_flagged (new_flags s) a.entry.1 a.is
            ∙ sym (ap (λ (o : Option Record). faces_flagged (new_flags s) (items_of shell (record_values o))) a.at))),
        subst (λ (o : Option Record). IsSomeAnd o (λ r. IsRecordOf shell r.1)) (sym there)
            (subst (IsRecordOf shell) (sym values) (still_record (new_flags s) a.entry.1 a.is)),
      )

  shell_holds : (m : ℤ) (p : ℕ) (known : List ℤ) (s : ℤ) → AllByRecursion SameShell known → AllHold (shell_at g m p known s)
      → SameShell s × AllHold (shell_at d m p known s)
  shell_holds m p known s ks all =
      let a : At g shell s = at_from g shell s all.1.0 all.1.1.0 in
      let t = shell_told s a in
      let used : flat_map (λ b. numbers (faces d b)) known ≡ flat_map (λ b. numbers (faces g b)) known =
      flat_same (λ b. numbers (faces g b)) (λ b. numbers (faces d b)) known
      (AllByRecursion-weaker SameShell (λ b. numbers (faces d b) ≡ numbers (faces g b)) known same_numbers ks) in
      let after : AllHold (after_each (face_places g s (flat_map (λ b. numbers (faces g b)) known)) [] (faces g s)) = all.1.1.1.1 in
      let still = after_still (face_places g s (flat_map (λ b. numbers (faces g b)) known)) (face_places d s (flat_map (λ b. numbers (faces g b)) known))
      (λ (i : ℤ × Bool). SameFace i.0) (face_step s (flat_map (λ b. numbers (faces g b)) known) (faces_known known ks)) [] (faces g s) tt after in
      let k : SameShell s = record { at = a; number = a.number; same = t.0; faces_same = numbers_all SameFace (faces g s) still.0 } in (
        k,
        (
          names_still s all.0,
          (
            kind_still shell s all.1.0,
            (
              t.1,
              (
                all.1.1.1.0,
                subst (λ us. AllHold (after_each (face_places d s us) [] (faces d s))) (sym used)
                    (faces_by_number d s (flat_map (λ b. numbers (faces g b)) known) [] [] (faces g s) (faces d s) refl (sym (same_numbers s k)) still.1),
              ),
            ),
          ),
        ),
      )

  shell_step : (m : ℤ) (before : List (ℤ × Bool)) (i : ℤ × Bool) → AllByRecursion (λ (j : ℤ × Bool). SameShell j.0) before
      → AllHold (shell_places g m before i) → SameShell i.0 × AllHold (shell_places d m before i)
  unfolding shell_places
  shell_step m before i bs all = shell_holds m (length before + 1) (numbers before) i.0 (numbers_all SameShell before bs) all

  -- the solid lists the same shells, and so on
  pub record SameSolid (m : ℤ) : Type 0 where
    pub same : shells d m ≡ shells g m
    pub shells_same : AllByRecursion (λ (i : ℤ × Bool). SameShell i.0) (shells g m)

  pub solid_holds : (m : ℕ) → AllHold (places g m) → SameSolid (pos m) × AllHold (places d m)
  unfolding places
  solid_holds m all =
      let k = record_same solid refl (pos m) 0 (pos m) all.0 all.1.0 all.1.1.0 in
      let t : told solid d (pos m) ≡ told solid g (pos m) = told_same solid (pos m) k.0 in
      let same : shells d (pos m) ≡ shells g (pos m) = ap (λ (i : SolidItems). i.outer ∷ i.voids) t in
      let after : AllHold (after_each (shell_places g (pos m)) [] (shells g (pos m))) = all.1.1.1 in
      let still = after_still (shell_places g (pos m)) (shell_places d (pos m)) (λ (i : ℤ × Bool). SameShell i.0) (shell_step (pos m)) []
      (shells g (pos m)) tt after in (
        record { same = same; shells_same = still.0 },
        (
          names_still (pos m) all.0,
          (
            kind_still solid (pos m) all.1.0,
            (
              k.1,
              subst (λ is. AllHold (after_each (shell_places d (pos m)) [] is)) (sym same) still.1,
            ),
          ),
        ),
      )

pub still_hold : ReflaggedPlaces
still_hold g n flags all = (solid_holds g n flags n all).1
