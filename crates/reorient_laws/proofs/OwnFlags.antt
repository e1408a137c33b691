-- Where the flags that are found are the solid's own, nothing changes.
use Rattle.std.specs.Prelude.{◌≡◌, ℕ, suc, ◌+◌, ◌*◌, ◌/◌, ◌%◌, ◌==◌, Bool, true, false, ℤ, pos, List, [], ◌∷◌, map, flat_map, Option, Some, None}
use Rattle.std.specs.Prelude.{slice_get, if◌then◌else◌}
use Rattle.std.specs.List.{AllByRecursion, AllZip, enumerate_from}
use Rattle.std.specs.Ordering.{int_eq}
use Rattle.std.proofs.Common.{refl, sym, ◌∙◌, ap, subst, arith}
use Rattle.std.proofs.lemmas.Bool.{cond-true, cond-false, eq-eqb}
use Rattle.std.proofs.lemmas.Bool.Decides.{Decides-int_eq}
use Rattle.std.proofs.lemmas.Option.{same_Some}
use Rattle.iges_fields.specs.declared.value.Value.{Value}
use Rattle.iges_directory.specs.Named.{unless_unused}
use Rattle.iges_params.specs.Contents.{Contents}
use Rattle.iges_params.specs.Named.{kind_of, named, record_values}
use Rattle.brep_lists.specs.DueValues.{MeetsAll}
use Rattle.brep_lists.specs.Record.{type_number, pair_due, items_of, IsRecordOf}
use Rattle.brep_lists.specs.declared.entity_kind.EntityKind.TheVariants.{Shell as shell}
use Rattle.brep_walk.specs.Places.{shells, faces, numbers, places}
use Rattle.brep_walk.specs.SolidOf.{face_by, shell_by, keys_of, solid_of}
use Rattle.brep_numbering.specs.Keys.{Keys}
use Rattle.solid_data.specs.Obligations.{AllHold}
use Rattle.solid_data.specs.declared.solid.FaceUse.{FaceUse}
use Rattle.solid_data.specs.declared.solid.Shell.{Shell}
use Rattle.entry_references.specs.Refs.{Record}
use Rattle.entry_references.proofs.Marks.{place_is, odd_is}
use Rattle.solid_extract.specs.Extracted.{new_number}
use Rattle.extraction_laws.specs.Kept.{kept_names}
use Rattle.extraction_laws.specs.Relabelled.{Names, IsRelabelledFace, IsRelabelledShell, IsRelabelled}
use Rattle.solid_reorient.specs.Reflagged.{pairs_with, values_with, flags_for, reflagged_values, reflagged_record, reflagged}
use Rattle.solid_reorient.proofs.Entries.{other_stays, shell_changes, none_changes}
use Rattle.solid_reorient.proofs.StillHold.{At, SameShell, SameSolid, solid_holds}
use Rattle.reorient_laws.specs.Stays.{own_flags, OwnFlagsStay}
use Rattle.reorient_laws.proofs.TurnedSolid.{places_between, told}

abbrev second : List (ℤ × Bool) → List Bool
second items = map (λ (i : ℤ × Bool). i.1) items

-- ---- values

pairs_own : (items : List (ℤ × Bool)) (vs : List Value) → MeetsAll (flat_map pair_due items) vs → pairs_with (second items) vs ≡ vs
pairs_own [] vs h = refl
pairs_own (i ∷ items) [] h = absurd h
pairs_own (i ∷ items) (p ∷ []) h = absurd h.1
pairs_own (i ∷ items) (p ∷ v ∷ vs) h = ap (λ (w : Value). p ∷ w ∷ pairs_with (second items) vs) (sym h.1.0)
    ∙ ap (λ (ws : List Value). p ∷ v ∷ ws) (pairs_own items vs h.1.1)

values_own : (items : List (ℤ × Bool)) (vs : List Value) → MeetsAll (flat_map pair_due items) vs → (n : Value) → values_with (second items) (n ∷ vs) ≡ n ∷ vs
values_own items vs h n = ap (λ (ws : List Value). n ∷ ws) (pairs_own items vs h)

record_own : (vs : List Value) → IsRecordOf shell vs → values_with (second (items_of shell vs)) vs ≡ vs
record_own [] h = refl
record_own (n ∷ vs) h = values_own (items_of shell (n ∷ vs)) vs h.1 n

-- ---- entries

-- an entry that has a type is named by its number
named_odd : (g : Contents) (k : ℕ) (r : Record) → slice_get g.entries k ≡ Some r → int_eq r.0.kind (pos 0) ≡ false → named g (pos (2 * k + 1)) ≡ Some r
named_odd g k r at kind =
    cond-true ((2 * k + 1) % 2 == 1) (unless_unused kind_of (slice_get g.entries ((2 * k + 1) / 2))) None (eq-eqb ((2 * k + 1) % 2) 1 (odd_is k))
    ∙ (ap (λ (i : ℕ). unless_unused kind_of (slice_get g.entries i)) (place_is k)
    ∙ (ap (unless_unused kind_of) at ∙ cond-false (int_eq r.0.kind (pos 0)) None (Some r) kind))

entries_stay : (fs : List (List Bool)) (zs : List ℤ) (k : ℕ) (rs : List Record)
    → ((j : ℕ) (r : Record) → slice_get rs j ≡ Some r → reflagged_values (flags_for fs zs (2 * (k + j) + 1)) r ≡ r.1)
    → map (reflagged_record fs zs) (enumerate_from k rs) ≡ rs
entries_stay fs zs k [] each = refl
entries_stay fs zs k (r ∷ rs) each =
    let none : k + 0 ≡ k = omega arith in
    ap (λ (vs : List Value). let q : Record = (r.0, vs) in q ∷ map (reflagged_record fs zs) (enumerate_from (k + 1) rs))
    (subst (λ j. reflagged_values (flags_for fs zs (2 * j + 1)) r ≡ r.1) none (each 0 r refl))
    ∙ ap (λ (qs : List Record). r ∷ qs) (entries_stay fs zs (k + 1) rs
    (λ j q at. subst (λ i. reflagged_values (flags_for fs zs (2 * i + 1)) q ≡ q.1) (let next : k + suc j ≡ k + 1 + j = omega arith in next)
    (each (suc j) q at)))

module _ (g : Contents) where
  -- the flags leave the entry that the number names as it is
  abbrev IsOwn : List Bool → ℤ → Type 0
  IsOwn x z = (r : Record) → named g z ≡ Some r → reflagged_values x r ≡ r.1

  stays_for : (fs : List (List Bool)) (zs : List ℤ) → AllZip IsOwn fs zs → (m : ℕ) (r : Record) → named g (pos m) ≡ Some r
      → reflagged_values (flags_for fs zs m) r ≡ r.1
  stays_for [] [] own m r at = none_changes r
  stays_for [] (z ∷ zs) own m r at = none_changes r
  stays_for (x ∷ fs) [] own m r at = none_changes r
  stays_for (x ∷ fs) (z ∷ zs) own m r at = by_test (int_eq z (pos m)) refl (stays_for fs zs own.1 m r at)
    where
      by_test : (b : Bool) → int_eq z (pos m) ≡ b → reflagged_values (flags_for fs zs m) r ≡ r.1 → reflagged_values (if b then x else flags_for fs zs m) r ≡ r.1
      by_test true t on = own.0 r (ap (named g) ((Decides-int_eq z (pos m)).0 t) ∙ at)
      by_test false t on = on

  entry_stays : (fs : List (List Bool)) (zs : List ℤ) → AllZip IsOwn fs zs → (k : ℕ) (r : Record) → slice_get g.entries k ≡ Some r
      → reflagged_values (flags_for fs zs (2 * k + 1)) r ≡ r.1
  entry_stays fs zs own k r at = by_test (int_eq r.0.kind (pos 0)) refl
    where
      by_test : (b : Bool) → int_eq r.0.kind (pos 0) ≡ b → reflagged_values (flags_for fs zs (2 * k + 1)) r ≡ r.1
      by_test true t = other_stays (flags_for fs zs (2 * k + 1)) r (ap (λ z. int_eq z (type_number shell)) ((Decides-int_eq r.0.kind (pos 0)).0 t))
      by_test false t = stays_for fs zs own (2 * k + 1) r (named_odd g k r at t)

  pub file_stays : (n : ℕ) (fs : List (List Bool)) → AllZip IsOwn fs (numbers (shells g (pos n))) → reflagged g n fs ≡ g
  unfolding reflagged
  file_stays n fs own =
      let entries : map (reflagged_record fs (numbers (shells g (pos n)))) (enumerate_from 0 g.entries) ≡ g.entries =
      entries_stay fs (numbers (shells g (pos n))) 0 g.entries
      (λ j r at. let none : 0 + j ≡ j = omega arith in subst (λ i. reflagged_values (flags_for fs (numbers (shells g (pos n))) (2 * i + 1)) r ≡ r.1)
      (sym none) (entry_stays fs (numbers (shells g (pos n))) own j r at)) in
      λ i. record { start = g.start; global = g.global; entries = entries i }

  -- the flags that a shell's record has
  shell_own : (z : ℤ) (x : List Bool) → At g shell z → x ≡ second (faces g z) → IsOwn x z
  shell_own z x a e r at =
      let same : a.entry ≡ r = same_Some a.entry r (sym a.at ∙ at) in
      let typed : int_eq r.0.kind (type_number shell) ≡ true = (Decides-int_eq r.0.kind (type_number shell)).1 (sym (ap (λ (q : Record). q.0.kind) same)
      ∙ a.typed) in
      let told_as : faces g z ≡ items_of shell r.1 = ap (λ (o : Option Record). items_of shell (record_values o)) at in
      shell_changes x r typed
      ∙ (ap (λ (bs : List Bool). values_with bs r.1) (e ∙ ap second told_as) ∙ record_own r.1 (subst (λ (q : Record). IsRecordOf shell q.1) same a.is))

  faces_flags : (keys : Keys) (items : List (ℤ × Bool)) → map (λ (f : FaceUse). f.flag) (map (face_by g keys) items) ≡ second items
  faces_flags keys [] = refl
  faces_flags keys (i ∷ items) = ap (λ (bs : List Bool). i.1 ∷ bs) (faces_flags keys items)

  shells_own : (keys : Keys) (items : List (ℤ × Bool)) → AllByRecursion (λ (i : ℤ × Bool). At g shell i.0) items
      → AllZip IsOwn (map (λ (h : Shell). map (λ (f : FaceUse). f.flag) h.faces) (map (shell_by g keys) items)) (numbers items)
  shells_own keys [] all = tt
  shells_own keys (i ∷ items) all = (
    shell_own i.0 (map (λ (f : FaceUse). f.flag) (map (face_by g keys) (faces g i.0))) all.0 (faces_flags keys (faces g i.0)),
    shells_own keys items all.1,
  )

-- ---- other names

faces_same : (N : Names) (fs gs : List FaceUse) → AllZip (IsRelabelledFace N) fs gs → map (λ (f : FaceUse). f.flag) fs ≡ map (λ (f : FaceUse). f.flag) gs
faces_same N [] [] z = refl
faces_same N [] (g ∷ gs) z = absurd z
faces_same N (f ∷ fs) [] z = absurd z
faces_same N (f ∷ fs) (g ∷ gs) z = ap (λ b. b ∷ map (λ (h : FaceUse). h.flag) fs) z.0.flag ∙ ap (λ (bs : List Bool). g.flag ∷ bs) (faces_same N fs gs z.1)

flags_same : (N : Names) (hs ks : List Shell) → AllZip (IsRelabelledShell N) hs ks
    → map (λ (h : Shell). map (λ (f : FaceUse). f.flag) h.faces) hs ≡ map (λ (h : Shell). map (λ (f : FaceUse). f.flag) h.faces) ks
flags_same N [] [] z = refl
flags_same N [] (k ∷ ks) z = absurd z
flags_same N (h ∷ hs) [] z = absurd z
flags_same N (h ∷ hs) (k ∷ ks) z =
    ap (λ (bs : List Bool). bs ∷ map (λ (x : Shell). map (λ (f : FaceUse). f.flag) x.faces) hs) (faces_same N h.faces k.faces z.0.faces)
    ∙ ap (λ (bs : List (List Bool)). map (λ (f : FaceUse). f.flag) k.faces ∷ bs) (flags_same N hs ks z.1)

-- ---- the file

shells_found : (g : Contents) (n : ℕ) (fs : List (List Bool)) → AllHold (places g n) → AllByRecursion (λ (i : ℤ × Bool). At g shell i.0) (shells g (pos n))
shells_found g n fs all = let known : SameSolid g n fs (pos n) = (solid_holds g n fs n all).0 in each (shells g (pos n)) known.shells_same
  where
    each : (items : List (ℤ × Bool)) → AllByRecursion (λ (i : ℤ × Bool). SameShell g n fs i.0) items → AllByRecursion (λ (i : ℤ × Bool). At g shell i.0) items
    each [] k = tt
    each (i ∷ items) k = (k.0.at, each items k.1)

pub own_in : (g : Contents) (n : ℕ) → AllHold (places g n) → AllZip (IsOwn g) (own_flags (solid_of g n)) (numbers (shells g (pos n)))
unfolding solid_of
own_in g n all = shells_own g (keys_of g (pos n)) (shells g (pos n)) (shells_found g n [] all)

pub own_flags_stay : OwnFlagsStay
own_flags_stay f n new r own =
    let m = new_number r.extracted.kept n in
    let rel : IsRelabelled (kept_names r.extracted.kept) (solid_of f n) (solid_of r.«between» (new_number r.extracted.kept n)) = told f n new r in
    let flags : r.flags ≡ own_flags (solid_of r.«between» (new_number r.extracted.kept n)) =
    own ∙ flags_same (kept_names r.extracted.kept) (let s = solid_of f n in s.shells)
    (let s = solid_of r.«between» (new_number r.extracted.kept n) in s.shells) rel.shells in
    r.is
    ∙ (ap (reflagged r.«between» (new_number r.extracted.kept n)) flags
    ∙ file_stays r.«between» (new_number r.extracted.kept n) (own_flags (solid_of r.«between» (new_number r.extracted.kept n)))
    (own_in r.«between» (new_number r.extracted.kept n) (places_between f n new r)))
