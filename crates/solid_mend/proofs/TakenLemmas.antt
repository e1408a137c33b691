-- Remedies that are taken, one of each shell.
use Rattle.std.specs.Prelude.{◌≡◌, ℕ, ◌+◌, ◌<◌, get_or, List, [], ◌∷◌, ◌++◌, All, IfSome, Option, None, length, take, Some, slice_get}
use Rattle.std.specs.List.{AllByRecursion, AllZip, enumerate_from}
use Rattle.std.proofs.Common.{refl, sym, ◌∙◌, ap, subst, inl, inr}
use Rattle.std.proofs.lemmas.Option.{get_or_from_slice_get}
use Rattle.solid_data.proofs.Members.{get_some}
use Rattle.std.proofs.lemmas.List.Elements.{All-contains, recursion_from_All, All-from_recursion}
use Rattle.iges_params.specs.Contents.{Contents}
use Rattle.brep_walk.specs.SolidOf.{solid_of}
use Rattle.solid_data.specs.SolidData.{SolidData}
use Rattle.solid_data.specs.declared.solid.Shell.{Shell}
use Rattle.solid_data.specs.declared.solid.ShellAt.{ShellAt}
use Rattle.shell_change.specs.declared.change.Change.{Change}
use Rattle.shell_change.specs.declared.geometry.Geometry.{Geometry}
use Rattle.change_fits.specs.Fits.{Fits}
use Rattle.tried_remedies.specs.Tried.{IsTried}
use Rattle.solid_geometry.specs.Known.{IsGeometryOf}
use Rattle.changed_file.specs.Changed.{changed}
use Rattle.iges_params.proofs.Copies.{one_more}
use Rattle.solid_mend.specs.Failing.{AreOfFailing, OneEach}
use Rattle.solid_mend.specs.Mended.{AreRemediesOf, AreTriedOf, IsMadeWith, IsMended, IsTakenOf, IsWhole, shell_of_change, shell_of_remedies}
use Rattle.solid_mend.specs.declared.mending.Mended.{Mended}
use Rattle.solid_mend.specs.declared.shells.ShellRemedies.{ShellRemedies}

-- lists that are zipped, one more each
pub zip_more : {A B : Type 0} (R : A → B → Type 0) (xs : List A) (ys : List B) (x : A) (y : B) → AllZip R xs ys → R x y → AllZip R (xs ++ x ∷ []) (ys ++ y ∷ [])
zip_more R [] [] x y are r = (r, tt)
zip_more R [] (b ∷ ys) x y are r = absurd are
zip_more R (a ∷ xs) [] x y are r = absurd are
zip_more R (a ∷ xs) (b ∷ ys) x y are r = (are.0, zip_more R xs ys x y are.1 r)

pub at_index : (xs : List ShellRemedies) (i : ℕ) (x : ShellRemedies) → i < length xs → x ≡ get_or xs i x → slice_get xs i ≡ Some x
at_index xs i x lt is =
    let here = get_some xs i lt in
    here.1 ∙ ap (λ (y : ShellRemedies). Some y) (sym (is ∙ get_or_from_slice_get xs i here.0 x here.1))

pub zip_next : (xs : List ShellRemedies) (i : ℕ) (x : ShellRemedies) (cs new : List Change) (c : Change) → slice_get xs i ≡ Some x → IsTakenOf x c
    → new ≡ cs ++ c ∷ [] → AllZip IsTakenOf (take i xs) cs → AllZip IsTakenOf (take (i + 1) xs) new
zip_next xs i x cs new c at is en are =
    subst (λ ys. AllZip IsTakenOf ys new) (sym (one_more xs i x at))
    (subst (AllZip IsTakenOf (take i xs ++ x ∷ [])) (sym en) (zip_more IsTakenOf (take i xs) cs x c are is))

module _ (s : SolidData) (g : Geometry) where
  tried_of : (x : ShellRemedies) (c : Change) → AreTriedOf s g x → (t : IsTakenOf x c) → IsTried s g x.shell t.remedy
  tried_of x c tried t = All-contains (IsTried s g x.shell) x.remedies t.remedy tried t.among

  whole_of : (x : ShellRemedies) (c : Change) → AreTriedOf s g x → IsTakenOf x c → IsWhole s g c
  whole_of x c tried t = record { fits = subst (Fits s g) (sym t.is) (let r : IsTried s g x.shell t.remedy = tried_of x c tried t in r.fits); rims = t.rims }

  shell_of : (x : ShellRemedies) (c : Change) → AreTriedOf s g x → IsTakenOf x c → shell_of_change c ≡ shell_of_remedies x
  shell_of x c tried t =
      let r : IsTried s g x.shell t.remedy = tried_of x c tried t in
      ap shell_of_change t.is ∙ ap (λ (k : ShellAt). k.0) r.of_shell

  all_whole : (xs : List ShellRemedies) (cs : List Change) → AllByRecursion (AreTriedOf s g) xs → AllZip IsTakenOf xs cs → AllByRecursion (IsWhole s g) cs
  all_whole [] [] tried are = tt
  all_whole [] (c ∷ cs) tried are = absurd are
  all_whole (x ∷ xs) [] tried are = absurd are
  all_whole (x ∷ xs) (c ∷ cs) tried are = (whole_of x c tried.0 are.0, all_whole xs cs tried.1 are.1)

  all_failing : (hs : List (ℕ × Shell)) (xs : List ShellRemedies) (cs : List Change) → AllByRecursion (AreTriedOf s g) xs → AllZip IsTakenOf xs cs
      → AreOfFailing shell_of_remedies s hs xs → AreOfFailing shell_of_change s hs cs
  all_failing [] [] [] tried are of = refl
  all_failing [] [] (c ∷ cs) tried are of = absurd are
  all_failing [] (x ∷ xs) cs tried are of = absurd cc
  all_failing (h ∷ hs) [] [] tried are of = (of.0, all_failing hs [] [] tried are of.1)
  all_failing (h ∷ hs) [] (c ∷ cs) tried are of = absurd are
  all_failing (h ∷ hs) (x ∷ xs) [] tried are of = absurd are
  all_failing (h ∷ hs) (x ∷ xs) (c ∷ cs) tried are (inl (k, of)) = inl (k, all_failing hs (x ∷ xs) (c ∷ cs) tried are of)
  all_failing (h ∷ hs) (x ∷ xs) (c ∷ cs) tried are (inr (f, e, of)) = inr (f, shell_of x c tried.0 are.0 ∙ e, all_failing hs xs cs tried.1 are.1 of)

module _ (f : Contents) (n : ℕ) (s : SolidData) (xs : List ShellRemedies) (cs : List Change) (es : s ≡ solid_of f n) (r : AreRemediesOf f s xs)
    (are : AllZip IsTakenOf xs cs) where
  mended_so : (m : Mended) → IsMadeWith f s n cs m → IsMended f n m.changes m.file
  mended_so m w = subst (λ (ds : List Change). IsMended f n ds m.file) (sym w.changes) made
    where
      made : IsMended f n cs m.file
      made = record {
        geometry = r.geometry;
        known = subst (λ (t : SolidData). IsGeometryOf f t r.geometry) es r.known;
        failing = subst (λ (t : SolidData). OneEach shell_of_change t cs) es
            (all_failing s r.geometry (enumerate_from 0 s.shells) xs cs (recursion_from_All (AreTriedOf s r.geometry) xs r.tried) are r.failing);
        whole = subst (λ (t : SolidData). All (IsWhole t r.geometry) cs) es
            (All-from_recursion (IsWhole s r.geometry) cs (all_whole s r.geometry xs cs (recursion_from_All (AreTriedOf s r.geometry) xs r.tried) are));
        is = w.is ∙ ap (λ (t : SolidData). changed f t cs) es;
        closed = w.closed;
      }

  pub mended_if : (o : Option Mended) → IfSome o (IsMadeWith f s n cs) → IfSome o (λ m. IsMended f n m.changes m.file)
  mended_if None w = tt
  mended_if (Some m) w = mended_so m w
