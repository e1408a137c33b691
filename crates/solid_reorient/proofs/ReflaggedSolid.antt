-- The solid of a file with other flags is the solid with these flags.
use Rattle.std.specs.Prelude.{◌≡◌, ℕ, suc, ◌-◌, Bool, true, false, ℤ, pos, List, [], ◌∷◌, ◌++◌, length, map, flat_map, slice_get, if◌then◌else◌, ⊤}
use Rattle.std.specs.List.{AllByRecursion, AllZip}
use Rattle.std.proofs.Common.{refl, sym, ◌∙◌, ap, subst, inl, inr, arith}
use Rattle.std.proofs.lemmas.List.{length-map, map-append}
use Rattle.iges_params.specs.Contents.{Contents}
use Rattle.brep_lists.specs.Record.{LoopTuple}
use Rattle.brep_lists.specs.declared.entity_kind.EntityKind.TheVariants.{EdgeList as edges}
use Rattle.brep_lists.specs.declared.edge_list.EdgeTuple.{EdgeTuple}
use Rattle.solid_data.specs.Ring.{distinct}
use Rattle.solid_data.specs.Obligations.{entry_number, AllHold, after_each}
use Rattle.solid_data.specs.SolidData.{SolidData, same_edge, same_vertex}
use Rattle.solid_data.specs.declared.solid.Edge.{Edge}
use Rattle.solid_data.specs.declared.solid.EdgeKey.{EdgeKey}
use Rattle.solid_data.specs.declared.solid.Loop.{Loop}
use Rattle.solid_data.specs.declared.solid.FaceUse.{FaceUse}
use Rattle.solid_data.specs.declared.solid.Shell.{Shell}
use Rattle.solid_data.proofs.Keys.{from_distinct}
use Rattle.solid_data.proofs.Members.{Has, All-at, All-from, Contains-from_Has, all_flat_map, from_flat_map, has_left, has_right}
use Rattle.solid_data.proofs.ObligationLemmas.{AllHold-append_left, AllHold-append_right, AllByRecursion-weaker}
use Rattle.brep_numbering.specs.Keys.{Keys}
use Rattle.brep_walk.specs.Places.{shells, faces, loops, tuples, numbers, edge_at, shell_places, places}
use Rattle.brep_walk.specs.SolidOf.{entry_no, edge_key, vertex_key, all_tuples, edge_named, ends_named, vertices_named, edge_keys, vertex_keys, use_by, loop_by}
use Rattle.brep_walk.specs.SolidOf.{face_by, shell_by, numbered_by, edge_by, keys_of, solid_of}
use Rattle.orient_certificate.specs.Flags.{faces_with, shell_with}
use Rattle.solid_reorient.specs.Reflagged.{flags_for, reflagged}
use Rattle.flag_choice.specs.Turned.{turned_shells, turned, AreListsFor}
use Rattle.solid_reorient.specs.Turned.{ReflaggedSolid}
use Rattle.solid_reorient.proofs.Entries.{shells_of}
use Rattle.solid_reorient.proofs.FlagsFound.{not_equal, first_is, first_not}
use Rattle.solid_reorient.proofs.ShellValues.{faces_flagged}
use Rattle.solid_reorient.proofs.StillHold.{flat_same, numbers_all, d, Same, told_same, SameUse, SameTuple, SameLoop, SameFace, SameShell}
use Rattle.solid_reorient.proofs.StillHold.{same_numbers, faces_known, SameSolid, solid_holds}

-- ---- lists

map_same : {A B : Type 0} (F G : A → B) (xs : List A) → AllByRecursion (λ x. G x ≡ F x) xs → map G xs ≡ map F xs
map_same F G [] all = refl
map_same F G (x ∷ xs) all = ap (λ y. y ∷ map G xs) all.0 ∙ ap (λ ys. F x ∷ ys) (map_same F G xs all.1)

zip_both : {A B : Type 0} (P Q : A → B → Type 0) (xs : List A) (ys : List B) → AllZip P xs ys → AllZip Q xs ys → AllZip (λ x y. P x y × Q x y) xs ys
zip_both P Q [] [] p q = tt
zip_both P Q [] (y ∷ ys) p q = absurd p
zip_both P Q (x ∷ xs) [] p q = absurd p
zip_both P Q (x ∷ xs) (y ∷ ys) p q = ((p.0, q.0), zip_both P Q xs ys p.1 q.1)

-- what is related to the items of a map, to the items
pub zip_unmapped : {A B C : Type 0} (Q : A → C → Type 0) (P : A → B → Type 0) (f : B → C) (xs : List A) (ys : List B) → ((x : A) (y : B) → Q x (f y) → P x y)
    → AllZip Q xs (map f ys) → AllZip P xs ys
zip_unmapped Q P f [] [] one z = tt
zip_unmapped Q P f [] (y ∷ ys) one z = absurd z
zip_unmapped Q P f (x ∷ xs) [] one z = absurd z
zip_unmapped Q P f (x ∷ xs) (y ∷ ys) one z = (one x y z.0, zip_unmapped Q P f xs ys one z.1)

zip_long : {A B : Type 0} (Q : A → B → Type 0) (xs : List A) (ys : List B) → AllZip Q xs ys → length xs ≡ length ys
zip_long Q [] [] z = refl
zip_long Q [] (y ∷ ys) z = absurd z
zip_long Q (x ∷ xs) [] z = absurd z
zip_long Q (x ∷ xs) (y ∷ ys) z = ap suc (zip_long Q xs ys z.1)

-- ---- shells that occur once

-- none of these has the number
abbrev Lacks : ℤ → List (ℤ × Bool) → Type 0
Lacks z xs = AllByRecursion (λ (i : ℤ × Bool). ¬ (z ≡ i.0)) xs

abbrev AllApart : List (ℤ × Bool) → Type 0
AllApart [] = ⊤
AllApart (x ∷ xs) = Lacks x.0 xs × AllApart xs

-- the numbers of those before aren't among these
not_before : (g : Contents) (m : ℤ) (before xs : List (ℤ × Bool)) → AllHold (after_each (shell_places g m) before xs)
    → AllByRecursion (λ (i : ℤ × Bool). ¬ Has (numbers before) i.0) xs
unfolding shell_places
not_before g m before [] all = tt
not_before g m before (x ∷ xs) all =
    let here = AllHold-append_left (shell_places g m before x) (after_each (shell_places g m) (before ++ x ∷ []) xs) all in
    let rest = not_before g m (before ++ x ∷ []) xs
    (AllHold-append_right (shell_places g m before x) (after_each (shell_places g m) (before ++ x ∷ []) xs) all) in (
      λ h. here.1.1.1.0 (Contains-from_Has (numbers before) x.0 h),
      AllByRecursion-weaker (λ (i : ℤ × Bool). ¬ Has (numbers (before ++ x ∷ [])) i.0) (λ (i : ℤ × Bool). ¬ Has (numbers before) i.0) xs
          (λ i k h. k (subst (λ (zs : List ℤ). Has zs i.0) (sym (map-append (λ (j : ℤ × Bool). j.0) before (x ∷ [])))
          (has_left (numbers before) (x.0 ∷ []) i.0 h))) rest,
    )

all_apart : (g : Contents) (m : ℤ) (before xs : List (ℤ × Bool)) → AllHold (after_each (shell_places g m) before xs) → AllApart xs
all_apart g m before [] all = tt
all_apart g m before (x ∷ xs) all =
    let rest = AllHold-append_right (shell_places g m before x) (after_each (shell_places g m) (before ++ x ∷ []) xs) all in (
      AllByRecursion-weaker (λ (i : ℤ × Bool). ¬ Has (numbers (before ++ x ∷ [])) i.0) (λ (i : ℤ × Bool). ¬ (x.0 ≡ i.0)) xs
          (λ i k e. k (subst (λ (zs : List ℤ). Has zs i.0) (sym (map-append (λ (j : ℤ × Bool). j.0) before (x ∷ [])))
          (has_right (numbers before) (x.0 ∷ []) i.0 (inl e)))) (not_before g m (before ++ x ∷ []) xs rest),
      all_apart g m (before ++ x ∷ []) xs rest,
    )

abbrev IsNumber : ℤ × Bool → Type 0
IsNumber i = i.0 ≡ pos (entry_number i.0)

-- the list of each shell is for it
abbrev IsFor : List (List Bool) → List ℤ → List Bool → ℤ × Bool → Type 0
IsFor fs zs x i = flags_for fs zs (entry_number i.0) ≡ x

behind_first : (f : List Bool) (fs gs : List (List Bool)) (z : ℤ) (zs : List ℤ) (xs : List (ℤ × Bool)) → Lacks z xs → AllByRecursion IsNumber xs
    → AllZip (IsFor fs zs) gs xs → AllZip (IsFor (f ∷ fs) (z ∷ zs)) gs xs
behind_first f fs [] z zs [] a n h = tt
behind_first f fs [] z zs (x ∷ xs) a n h = absurd h
behind_first f fs (y ∷ gs) z zs [] a n h = absurd h
behind_first f fs (y ∷ gs) z zs (x ∷ xs) a n h =
    (first_not f fs z zs (entry_number x.0) (not_equal z (pos (entry_number x.0)) (λ e. a.0 (e ∙ sym n.0))) ∙ h.0, behind_first f fs gs z zs xs a.1 n.1 h.1)

lists_for : (fs : List (List Bool)) (xs : List (ℤ × Bool)) → AllApart xs → AllByRecursion IsNumber xs → length fs ≡ length xs
    → AllZip (IsFor fs (numbers xs)) fs xs
lists_for [] [] a n e = tt
lists_for [] (x ∷ xs) a n e = absurd (omega (arith, e))
lists_for (f ∷ fs) [] a n e = absurd (omega (arith, e))
lists_for (f ∷ fs) (x ∷ xs) a n e = (
  first_is f fs x.0 (numbers xs) (entry_number x.0) n.0,
  behind_first f fs fs x.0 (numbers xs) xs a.0 n.1 (lists_for fs xs a.1 n.1 (let less : length fs ≡ length xs = omega (arith, e) in less)),
)

-- ---- what the records tell, by keys

abbrev solid_by : Contents → ℕ → Keys → SolidData
solid_by f n keys = record {
  entity = record { 0 = n };
  shells = map (shell_by f keys) (shells f (pos n));
  edges = flat_map
      (edge_by f keys) keys.edges;
  vertices = keys.vertices;
}

solid_is : (f : Contents) (n : ℕ) → solid_of f n ≡ solid_by f n (keys_of f (pos n))
unfolding solid_of
solid_is f n = refl

module _ (g : Contents) (n : ℕ) (flags : List (List Bool)) where
  abbrev D : Contents
  D = d g n flags

  edge_same : (z : ℤ) (j : ℕ) → Same g n flags z → edge_at D z j ≡ edge_at g z j
  edge_same z j k = ap (λ (ts : List EdgeTuple). slice_get ts (j - 1)) (told_same g n flags edges z k)

  module _ (known : SameSolid g n flags (pos n)) where
    shells_all : AllByRecursion (SameShell g n flags) (numbers (shells g (pos n)))
    shells_all = numbers_all (SameShell g n flags) (shells g (pos n)) known.shells_same

    faces_all : AllByRecursion (SameFace g n flags) (flat_map (λ s. numbers (faces g s)) (numbers (shells g (pos n))))
    faces_all = faces_known g n flags (numbers (shells g (pos n))) shells_all

    loops_all : AllByRecursion (SameLoop g n flags) (flat_map (loops g) (flat_map (λ s. numbers (faces g s)) (numbers (shells g (pos n)))))
    loops_all =
        all_flat_map (SameLoop g n flags) (loops g) (flat_map (λ s. numbers (faces g s)) (numbers (shells g (pos n))))
        (λ c m. let k : SameFace g n flags c = All-at (SameFace g n flags) (flat_map (λ s. numbers (faces g s)) (numbers (shells g (pos n)))) faces_all c m in
        k.loops_same)

    tuples_all : AllByRecursion (SameTuple g n flags) (all_tuples g (pos n))
    tuples_all =
        all_flat_map (SameTuple g n flags) (tuples g) (flat_map (loops g) (flat_map (λ s. numbers (faces g s)) (numbers (shells g (pos n)))))
        (λ l m. let k : SameLoop g n flags l = All-at (SameLoop g n flags)
        (flat_map (loops g) (flat_map (λ s. numbers (faces g s)) (numbers (shells g (pos n))))) loops_all l m in k.uses)

    tuples_same : all_tuples D (pos n) ≡ all_tuples g (pos n)
    tuples_same =
        ap (λ is. flat_map (tuples D) (flat_map (loops D) (flat_map (λ s. numbers (faces D s)) (numbers is)))) known.same
        ∙ (ap (λ zs. flat_map (tuples D) (flat_map (loops D) zs))
        (flat_same (λ s. numbers (faces g s)) (λ s. numbers (faces D s)) (numbers (shells g (pos n)))
        (AllByRecursion-weaker (SameShell g n flags) (λ s. numbers (faces D s) ≡ numbers (faces g s)) (numbers (shells g (pos n)))
        (same_numbers g n flags) shells_all))
        ∙ (ap (λ zs. flat_map (tuples D) zs) (flat_same (loops g) (loops D) (flat_map (λ s. numbers (faces g s)) (numbers (shells g (pos n))))
        (AllByRecursion-weaker (SameFace g n flags) (λ c. loops D c ≡ loops g c) (flat_map (λ s. numbers (faces g s)) (numbers (shells g (pos n))))
        (λ c k. k.same) faces_all))
        ∙ flat_same (tuples g) (tuples D) (flat_map (loops g) (flat_map (λ s. numbers (faces g s)) (numbers (shells g (pos n)))))
        (AllByRecursion-weaker (SameLoop g n flags) (λ l. tuples D l ≡ tuples g l)
        (flat_map (loops g) (flat_map (λ s. numbers (faces g s)) (numbers (shells g (pos n))))) (λ l k. k.same) loops_all)))

    -- ---- keys

    named_same : (b : Bool) (z j : ℤ) → SameUse g n flags b z
        → (if b then vertex_key z j ∷ [] else ends_named (edge_at D z (entry_number j))) ≡
        (if b then vertex_key z j ∷ [] else ends_named (edge_at g z (entry_number j)))
    named_same true z j k = refl
    named_same false z j k = ap ends_named (edge_same z (entry_number j) k.0)

    edge_keys_same : edge_keys D (pos n) ≡ edge_keys g (pos n)
    edge_keys_same = ap (λ ts. distinct same_edge (flat_map edge_named ts)) tuples_same

    vertex_keys_same : vertex_keys D (pos n) ≡ vertex_keys g (pos n)
    vertex_keys_same =
        ap (λ ts. distinct same_vertex (flat_map (vertices_named D) ts)) tuples_same
        ∙ ap (distinct same_vertex) (flat_same (vertices_named g) (vertices_named D) (all_tuples g (pos n))
        (AllByRecursion-weaker (SameTuple g n flags) (λ t. vertices_named D t ≡ vertices_named g t) (all_tuples g (pos n))
        (λ t k. named_same t.is_vertex t.«list» t.index k) tuples_all))

    keys_same : keys_of D (pos n) ≡ keys_of g (pos n)
    keys_same =
        ap (λ ks. let keys : Keys = record { edges = ks; vertices = vertex_keys D (pos n) } in keys) edge_keys_same
        ∙ ap (λ ks. let keys : Keys = record { edges = edge_keys g (pos n); vertices = ks } in keys) vertex_keys_same

    abbrev SameKey : EdgeKey → Type 0
    SameKey key = edge_at D (pos key.«list».0) key.index ≡ edge_at g (pos key.«list».0) key.index

    key_same : (b : Bool) (z j : ℤ) (key : EdgeKey) → SameUse g n flags b z → Has (if b then [] else edge_key z j ∷ []) key → SameKey key
    key_same true z j key k h = absurd h
    key_same false z j key k (inl e) = subst SameKey e (edge_same (pos (entry_number z)) (entry_number j) k.1)
    key_same false z j key k (inr h) = absurd h

    keys_all : AllByRecursion SameKey (edge_keys g (pos n))
    keys_all =
        All-from SameKey (edge_keys g (pos n)) (λ key m.
        let t = from_flat_map edge_named (all_tuples g (pos n)) key (from_distinct same_edge (flat_map edge_named (all_tuples g (pos n))) key m) in
        key_same t.0.is_vertex t.0.«list» t.0.index key (All-at (SameTuple g n flags) (all_tuples g (pos n)) tuples_all t.0 t.1) t.2)

    edges_same : (keys : Keys) → flat_map (edge_by D keys) (edge_keys g (pos n)) ≡ flat_map (edge_by g keys) (edge_keys g (pos n))
    edges_same keys = flat_same (edge_by g keys) (edge_by D keys) (edge_keys g (pos n))
        (AllByRecursion-weaker SameKey (λ key. edge_by D keys key ≡ edge_by g keys key) (edge_keys g (pos n)) (λ key k. ap (numbered_by keys key) k) keys_all)

  -- ---- shells

  module _ (keys : Keys) where
    loop_same : (l : ℤ) → SameLoop g n flags l → loop_by D keys l ≡ loop_by g keys l
    loop_same l k = ap (λ (ts : List LoopTuple). let made : Loop = record { entity = entry_no l; uses = map (use_by keys) ts } in made) k.same

    face_same : (z : ℤ) (b : Bool) → SameFace g n flags z → face_by D keys (z, b) ≡ face_by g keys (z, b)
    face_same z b k =
        let same : map (loop_by D keys) (loops D z) ≡ map (loop_by g keys) (loops g z) =
        ap (map (loop_by D keys)) k.same ∙ map_same (loop_by g keys) (loop_by D keys) (loops g z)
        (AllByRecursion-weaker (SameLoop g n flags) (λ l. loop_by D keys l ≡ loop_by g keys l) (loops g z) loop_same k.loops_same) in
        ap (λ (ls : List Loop). let made : FaceUse = record { entity = entry_no z; flag = b; loops = ls } in made) same

    faces_turned : (bs : List Bool) (items : List (ℤ × Bool)) → length bs ≡ length items → AllByRecursion (SameFace g n flags) (numbers items)
        → map (face_by D keys) (faces_flagged bs items) ≡ faces_with bs (map (face_by g keys) items)
    faces_turned [] [] e all = refl
    faces_turned [] (i ∷ items) e all = absurd (omega (arith, e))
    faces_turned (b ∷ bs) [] e all = absurd (omega (arith, e))
    faces_turned (b ∷ bs) (i ∷ items) e all =
        ap (λ (x : FaceUse). x ∷ map (face_by D keys) (faces_flagged bs items)) (face_same i.0 b all.0)
        ∙ ap (λ (xs : List FaceUse). face_by g keys (i.0, b) ∷ xs)
        (faces_turned bs items (let less : length bs ≡ length items = omega (arith, e) in less) all.1)

    -- the flags for a shell, and how many they are
    abbrev IsTurned : List Bool → ℤ × Bool → Type 0
    IsTurned x i = IsFor flags (shells_of g n flags) x i × (length x ≡ length (faces g i.0))

    shell_turned : (x : List Bool) (i : ℤ × Bool) → SameShell g n flags i.0 → IsTurned x i → shell_by D keys i ≡ shell_with x (shell_by g keys i)
    shell_turned x i k t =
        let same : map (face_by D keys) (faces D i.0) ≡ faces_with x (map (face_by g keys) (faces g i.0)) =
        ap (map (face_by D keys)) (k.same ∙ ap (λ (bs : List Bool). faces_flagged bs (faces g i.0)) t.0) ∙ faces_turned x (faces g i.0) t.1 k.faces_same in
        ap (λ (fs : List FaceUse). let made : Shell = record { entity = entry_no i.0; flag = i.1; faces = fs } in made) same

    shells_turned : (fs : List (List Bool)) (items : List (ℤ × Bool)) → AllZip IsTurned fs items
        → AllByRecursion (λ (i : ℤ × Bool). SameShell g n flags i.0) items → map (shell_by D keys) items ≡ turned_shells fs (map (shell_by g keys) items)
    shells_turned [] [] z all = refl
    shells_turned [] (i ∷ items) z all = absurd z
    shells_turned (x ∷ fs) [] z all = absurd z
    shells_turned (x ∷ fs) (i ∷ items) z all =
        ap (λ (h : Shell). h ∷ map (shell_by D keys) items) (shell_turned x i all.0 z.0)
        ∙ ap (λ (hs : List Shell). shell_with x (shell_by g keys i) ∷ hs) (shells_turned fs items z.1 all.1)

  by_keys : (keys : Keys) (known : SameSolid g n flags (pos n)) → keys.edges ≡ edge_keys g (pos n) → AllZip (IsTurned keys) flags (shells g (pos n))
      → solid_by D n keys ≡ turned flags (solid_by g n keys)
  by_keys keys known e z =
      let shells_are : map (shell_by D keys) (shells D (pos n)) ≡ turned_shells flags (map (shell_by g keys) (shells g (pos n))) =
      ap (map (shell_by D keys)) known.same ∙ shells_turned keys flags (shells g (pos n)) z known.shells_same in
      let edges_are : flat_map (edge_by D keys) keys.edges ≡ flat_map (edge_by g keys) keys.edges =
      ap (flat_map (edge_by D keys)) e ∙ (edges_same known keys ∙ sym (ap (flat_map (edge_by g keys)) e)) in
      ap (λ (hs : List Shell). let s : SolidData = record {
        entity = record { 0 = n };
        shells = hs;
        edges = flat_map
            (edge_by D keys) keys.edges;
        vertices = keys.vertices;
      } in s) shells_are
      ∙ ap (λ (es : List Edge). let s : SolidData = record {
        entity = record { 0 = n };
        shells = turned_shells flags
            (map (shell_by g keys) (shells g (pos n)));
        edges = es;
        vertices = keys.vertices;
      } in s) edges_are

  lists_turned : (keys : Keys) (known : SameSolid g n flags (pos n)) → AllApart (shells g (pos n))
      → AreListsFor flags (map (shell_by g keys) (shells g (pos n))) → AllZip (IsTurned keys) flags (shells g (pos n))
  lists_turned keys known a z =
      let counted : AllZip (λ (x : List Bool) (i : ℤ × Bool). length x ≡ length (faces g i.0)) flags (shells g (pos n)) =
      zip_unmapped (λ (x : List Bool) (h : Shell). length x ≡ length h.faces) (λ (x : List Bool) (i : ℤ × Bool). length x ≡ length (faces g i.0))
      (shell_by g keys) flags (shells g (pos n)) (λ x i e. e ∙ length-map (faces g i.0) (face_by g keys)) z in
      zip_both (IsFor flags (shells_of g n flags)) (λ (x : List Bool) (i : ℤ × Bool). length x ≡ length (faces g i.0)) flags (shells g (pos n))
      (lists_for flags (shells g (pos n)) a (AllByRecursion-weaker (λ (i : ℤ × Bool). SameShell g n flags i.0) IsNumber (shells g (pos n))
      (λ i k. k.number) known.shells_same)
      (zip_long (λ (x : List Bool) (i : ℤ × Bool). length x ≡ length (faces g i.0)) flags (shells g (pos n)) counted)) counted

shells_apart : (g : Contents) (n : ℕ) → AllHold (places g n) → AllApart (shells g (pos n))
unfolding places
shells_apart g n all = all_apart g (pos n) [] (shells g (pos n)) all.1.1.1

pub solid_turned : ReflaggedSolid
solid_turned g n flags all lists =
    let known : SameSolid g n flags (pos n) = (solid_holds g n flags n all).0 in
    let keys : Keys = keys_of g (pos n) in
    let here : AreListsFor flags (map (shell_by g (keys_of g (pos n))) (shells g (pos n))) = subst (λ (s : SolidData). AreListsFor flags s.shells)
    (solid_is g n) lists in
    solid_is (reflagged g n flags) n
    ∙ (ap (solid_by (reflagged g n flags) n) (keys_same g n flags known)
    ∙ (by_keys g n flags (keys_of g (pos n)) known refl (lists_turned g n flags (keys_of g (pos n)) known (shells_apart g n all) here)
    ∙ sym (ap (turned flags) (solid_is g n))))
