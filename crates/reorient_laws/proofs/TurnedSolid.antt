-- The solid of a reoriented file is that of its file with the flags that were found, renamed.
use Rattle.std.specs.Prelude.{◌≡◌, ℕ, suc, Bool, List, [], ◌∷◌, length, Option, Some, slice_get}
use Rattle.std.specs.List.{AllZip}
use Rattle.std.proofs.Common.{refl, sym, ◌∙◌, ap, subst, arith}
use Rattle.std.proofs.lemmas.List.{length-map}
use Rattle.iges_params.specs.Contents.{Contents}
use Rattle.solid_data.specs.Obligations.{AllHold}
use Rattle.solid_data.specs.SolidData.{SolidData}
use Rattle.solid_data.specs.declared.solid.FaceUse.{FaceUse}
use Rattle.solid_data.specs.declared.solid.Shell.{Shell}
use Rattle.brep_walk.specs.Places.{places}
use Rattle.brep_walk.specs.SolidOf.{solid_of}
use Rattle.orient_certificate.specs.Flags.{face_flags, faces_with}
use Rattle.solid_extract.specs.Extracted.{new_number}
use Rattle.solid_extract.proofs.Copies.{zip_length}
use Rattle.extraction_laws.specs.Kept.{kept_names}
use Rattle.extraction_laws.specs.Relabelled.{Names, IsRelabelledFace, IsRelabelledShell, IsRelabelled}
use Rattle.extraction_laws.proofs.ExtractedSolid.{places_kept, solid_told}
use Rattle.flag_choice.specs.Suiting.{FlagsOrient, AllSuit}
use Rattle.flag_choice.proofs.Two.{suit_orients}
use Rattle.solid_reorient.specs.Reoriented.{IsReoriented}
use Rattle.flag_choice.specs.Turned.{turned_shells, turned, AreListsFor}
use Rattle.solid_reorient.proofs.StillHold.{still_hold}
use Rattle.solid_reorient.proofs.ReflaggedSolid.{solid_turned}
use Rattle.reorient_laws.specs.Closed.{SolidIsReoriented}

-- ---- lists

zip_from : {A B : Type 0} (Q : A → B → Type 0) (xs : List A) (ys : List B) → length xs ≡ length ys
    → ((k : ℕ) (x : A) (y : B) → slice_get xs k ≡ Some x → slice_get ys k ≡ Some y → Q x y) → AllZip Q xs ys
zip_from Q [] [] e each = tt
zip_from Q [] (y ∷ ys) e each = absurd (omega (arith, e))
zip_from Q (x ∷ xs) [] e each = absurd (omega (arith, e))
zip_from Q (x ∷ xs) (y ∷ ys) e each = (
  each 0 x y refl refl,
  zip_from Q xs ys (let less : length xs ≡ length ys = omega (arith, e) in less)
      (λ k a b p q. each (suc k) a b p q),
)

abbrev IsListFor : List Bool → Shell → Type 0
IsListFor x h = length x ≡ length h.faces

-- there is a flag for each face
pub suit_lists : (s : SolidData) (flags : List (List Bool)) → AllSuit s flags → AreListsFor flags s.shells
suit_lists s flags a = zip_from IsListFor flags s.shells a.each one
  where
    one : (k : ℕ) (x : List Bool) (h : Shell) → slice_get flags k ≡ Some x → slice_get s.shells k ≡ Some h → length x ≡ length h.faces
    one k x h at there =
        let suit : FlagsOrient s k x = suit_orients s k x (a.suit k x at) in
        suit.each ∙ (ap (λ (o : Option Shell). length (face_flags o)) there ∙ length-map h.faces (λ (f : FaceUse). f.flag))

-- ---- other names

module _ (N : Names) where
  lists_renamed : (flags : List (List Bool)) (hs ks : List Shell) → AllZip (IsRelabelledShell N) hs ks → AreListsFor flags hs → AreListsFor flags ks
  lists_renamed [] [] [] z a = tt
  lists_renamed [] [] (k ∷ ks) z a = absurd z
  lists_renamed [] (h ∷ hs) ks z a = absurd a
  lists_renamed (x ∷ flags) [] ks z a = absurd a
  lists_renamed (x ∷ flags) (h ∷ hs) [] z a = absurd z
  lists_renamed (x ∷ flags) (h ∷ hs) (k ∷ ks) z a = (a.0 ∙ zip_length (IsRelabelledFace N) h.faces k.faces z.0.faces, lists_renamed flags hs ks z.1 a.1)

  faces_renamed : (bs : List Bool) (fs gs : List FaceUse) → AllZip (IsRelabelledFace N) fs gs
      → AllZip (IsRelabelledFace N) (faces_with bs fs) (faces_with bs gs)
  faces_renamed [] fs gs z = tt
  faces_renamed (b ∷ bs) [] [] z = tt
  faces_renamed (b ∷ bs) [] (g ∷ gs) z = absurd z
  faces_renamed (b ∷ bs) (f ∷ fs) [] z = absurd z
  faces_renamed (b ∷ bs) (f ∷ fs) (g ∷ gs) z = (record { entity = z.0.entity; flag = refl; loops = z.0.loops }, faces_renamed bs fs gs z.1)

  shells_renamed : (flags : List (List Bool)) (hs ks : List Shell) → AllZip (IsRelabelledShell N) hs ks
      → AllZip (IsRelabelledShell N) (turned_shells flags hs) (turned_shells flags ks)
  shells_renamed [] hs ks z = tt
  shells_renamed (x ∷ flags) [] [] z = tt
  shells_renamed (x ∷ flags) [] (k ∷ ks) z = absurd z
  shells_renamed (x ∷ flags) (h ∷ hs) [] z = absurd z
  shells_renamed (x ∷ flags) (h ∷ hs) (k ∷ ks) z = (
    record { entity = z.0.entity; flag = z.0.flag; faces = faces_renamed x h.faces k.faces z.0.faces },
    shells_renamed flags hs ks z.1,
  )

  pub solid_renamed : (flags : List (List Bool)) (s t : SolidData) → IsRelabelled N s t → IsRelabelled N (turned flags s) (turned flags t)
  solid_renamed flags s t k = record { entity = k.entity; shells = shells_renamed flags s.shells t.shells k.shells; edges = k.edges; vertices = k.vertices }

-- ---- the solid

module _ (f : Contents) (n : ℕ) (new : Contents) (r : IsReoriented f n new) where
  abbrev g : Contents
  g = r.«between»

  abbrev m : ℕ
  m = new_number r.extracted.kept n

  pub places_between : AllHold (places g m)
  places_between = let k = places_kept f r.«between» n r.extracted in k.all.0 r.fit.places

  pub told : IsRelabelled (kept_names r.extracted.kept) (solid_of f n) (solid_of g m)
  told = solid_told f r.«between» n r.extracted r.fit.places

  pub lists : AreListsFor r.flags (let s = solid_of g m in s.shells)
  lists = lists_renamed (kept_names r.extracted.kept) r.flags (let s = solid_of f n in s.shells) (let s = solid_of g m in s.shells) (let k = told in k.shells)
      (suit_lists (solid_of f n) r.flags r.fit.suit)

  pub places_new : AllHold (places new m)
  places_new = subst (λ (c : Contents). AllHold (places c m)) (sym r.is) (still_hold g m r.flags places_between)

  solid_new : solid_of new m ≡ turned r.flags (solid_of g m)
  solid_new = ap (λ (c : Contents). solid_of c m) r.is ∙ (solid_turned g m r.flags places_between lists)

  pub relabelled : IsRelabelled (kept_names r.extracted.kept) (turned r.flags (solid_of f n)) (solid_of new m)
  relabelled = subst (λ (s : SolidData). IsRelabelled (kept_names r.extracted.kept) (turned r.flags (solid_of f n)) s) (sym solid_new)
      (solid_renamed (kept_names r.extracted.kept) r.flags (solid_of f n) (solid_of g m) told)

pub solid_reoriented : SolidIsReoriented
solid_reoriented f n new r = (places_new f n new r, relabelled f n new r)
