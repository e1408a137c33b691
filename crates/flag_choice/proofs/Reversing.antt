-- A shell whose flags are all turned round: each row runs the other way.
use Rattle.std.specs.Prelude.{◌≡◌, ℕ, zero, suc, ◌<◌, Bool, true, false, not, List, [], ◌∷◌, length, map, Option, Some, None, option_map}
use Rattle.std.specs.List.{AllByRecursion, AllZip}
use Rattle.std.proofs.Common.{refl, sym, ◌∙◌, ap, subst, arith, get_or}
use Rattle.std.proofs.lemmas.List.{length-map}
use Rattle.solid_data.specs.SolidData.{SolidData, same_flag}
use Rattle.solid_data.specs.declared.solid.FaceUse.{FaceUse}
use Rattle.solid_data.specs.declared.solid.LoopAt.{LoopAt}
use Rattle.solid_data.specs.declared.solid.Shell.{Shell}
use Rattle.edge_uses.specs.declared.row.Row.{Row}
use Rattle.edge_uses.specs.ShellRows.{ShellRows, shell_rows, rows_of}
use Rattle.orient_certificate.specs.Flags.{face_flags, faces_with, shell_with, PartnersDiffer}
use Rattle.orient_certificate.specs.OddRing.{bare_shell}
use Rattle.orient_certificate.proofs.Bare.{Told, Alike, walks, told_rows, bare_with, walks_with, zip_get, partners_alike}
use Rattle.orient_certificate.proofs.Crossed.{faces_low, faces_counted}
use Rattle.flag_choice.specs.Choice.{reversed}
use Rattle.flag_choice.proofs.ChosenLists.{length-reversed}

record Opposite (a b : Row) : Type 0 where
  at : a.at ≡ b.at
  edge : a.edge ≡ b.edge
  along : a.along ≡ not b.along

opposite_along : (a b f : Bool) → same_flag a (not f) ≡ same_flag b f → a ≡ not b
opposite_along true true true e = sym e
opposite_along true true false e = e
opposite_along true false f e = refl
opposite_along false true f e = refl
opposite_along false false true e = sym e
opposite_along false false false e = e

opposite_flag : (b s : Bool) → same_flag (not b) s ≡ not (same_flag b s)
opposite_flag true s = refl
opposite_flag false true = refl
opposite_flag false false = refl

zip_opposite : (F G : ℕ → Bool) (n : ℕ) → ((i : ℕ) → i < n → G i ≡ not (F i)) → (xs ys bs : List Row)
    → AllByRecursion (λ (r : Row). r.at.face.0 < n) ys → AllZip (Told F) xs bs → AllZip (Told G) ys bs → AllZip Opposite ys xs
zip_opposite F G n turns [] [] [] low a b = tt
zip_opposite F G n turns [] [] (z ∷ bs) low a b = absurd a
zip_opposite F G n turns [] (y ∷ ys) [] low a b = absurd b
zip_opposite F G n turns [] (y ∷ ys) (z ∷ bs) low a b = absurd a
zip_opposite F G n turns (x ∷ xs) [] [] low a b = absurd a
zip_opposite F G n turns (x ∷ xs) (y ∷ ys) [] low a b = absurd a
zip_opposite F G n turns (x ∷ xs) [] (z ∷ bs) low a b = absurd b
zip_opposite F G n turns (x ∷ xs) (y ∷ ys) (z ∷ bs) low a b =
    let at : y.at ≡ x.at = b.0.at ∙ sym a.0.at in
    let face : y.at.face.0 ≡ x.at.face.0 = ap (λ (i : LoopAt). i.face.0) at in
    let walk : G y.at.face.0 ≡ not (F x.at.face.0) = turns y.at.face.0 low.0 ∙ ap (λ (i : ℕ). not (F i)) face in
    let same : same_flag y.along (not (F x.at.face.0)) ≡ same_flag x.along (F x.at.face.0) =
    ap (same_flag y.along) (sym walk) ∙ (b.0.along ∙ sym a.0.along) in (
      record { at = at; edge = b.0.edge ∙ sym a.0.edge; along = opposite_along y.along x.along (F x.at.face.0) same },
      zip_opposite F G n turns xs ys bs low.1 a.1 b.1,
    )

zip_alike : (xs ys : List Row) → AllZip Opposite xs ys → AllZip Alike xs ys
zip_alike [] [] a = tt
zip_alike [] (y ∷ ys) a = absurd a
zip_alike (x ∷ xs) [] a = absurd a
zip_alike (x ∷ xs) (y ∷ ys) a = (record { at = a.0.at; edge = a.0.edge }, zip_alike xs ys a.1)

-- partners that run in different directions do so turned round
opposite_differ : (d e : ShellRows) → AllZip Opposite e.rows d.rows → PartnersDiffer d → PartnersDiffer e
opposite_differ d e z differ r m a b p at_r at_m =
    let u = zip_get Opposite e.rows d.rows r a z at_r in
    let v = zip_get Opposite e.rows d.rows m b z at_m in
    let other : u.0.along ≡ not v.0.along = differ r m u.0 v.0 (partners_alike e d r m (zip_alike e.rows d.rows z) p) u.1 v.1 in
    u.2.along ∙ (ap not other ∙ ap not (sym v.2.along))

flag_reversed : (flags : List Bool) (i : ℕ) → i < length flags → get_or (reversed flags) i false ≡ not (get_or flags i false)
flag_reversed [] i lt = absurd (omega (arith, lt))
flag_reversed (b ∷ flags) zero lt = refl
flag_reversed (b ∷ flags) (suc i) lt = flag_reversed flags i (omega (arith, lt))

length-with : (flags : List Bool) (fs : List FaceUse) → length flags ≡ length fs → length (map (λ (f : FaceUse). f.flag) (faces_with flags fs)) ≡ length flags
length-with [] [] e = refl
length-with [] (f ∷ fs) e = absurd (omega (arith, e))
length-with (b ∷ flags) [] e = absurd (omega (arith, e))
length-with (b ∷ flags) (f ∷ fs) e = ap suc (length-with flags fs (let less : length flags ≡ length fs = omega (arith, e) in less))

module _ (s : SolidData) (h : Shell) (flags : List Bool) (long : length flags ≡ length h.faces) where
  abbrev kept : Shell
  kept = shell_with flags h

  abbrev turned : Shell
  turned = shell_with (reversed flags) h

  turned_long : length (reversed flags) ≡ length h.faces
  turned_long = length-reversed flags ∙ long

  walks_turn : (i : ℕ) → i < length flags → walks (Some turned) i ≡ not (walks (Some kept) i)
  walks_turn i lt =
      walks_with (reversed flags) h i turned_long (omega (arith, lt, length-reversed flags))
      ∙ (ap (λ (b : Bool). same_flag b h.flag) (flag_reversed flags i lt)
      ∙ (opposite_flag (get_or flags i false) h.flag ∙ ap not (sym (walks_with flags h i long lt))))

  faces_few : (shell_rows s turned).face_count ≡ length flags
  faces_few = faces_counted s (Some turned) ∙ (length-with (reversed flags) h.faces turned_long ∙ length-reversed flags)

  told_kept : AllZip (Told (walks (Some kept))) (shell_rows s kept).rows (shell_rows s (bare_shell h)).rows
  told_kept =
      subst (λ (g : Shell). AllZip (Told (walks (Some kept))) (shell_rows s kept).rows (shell_rows s g).rows) (bare_with flags h long)
      (told_rows s (Some kept))

  told_turned : AllZip (Told (walks (Some turned))) (shell_rows s turned).rows (shell_rows s (bare_shell h)).rows
  told_turned =
      subst (λ (g : Shell). AllZip (Told (walks (Some turned))) (shell_rows s turned).rows (shell_rows s g).rows) (bare_with (reversed flags) h turned_long)
      (told_rows s (Some turned))

  rows_opposite : AllZip Opposite (shell_rows s turned).rows (shell_rows s kept).rows
  rows_opposite =
      zip_opposite (walks (Some kept)) (walks (Some turned)) (length flags) walks_turn (shell_rows s kept).rows (shell_rows s turned).rows
      (shell_rows s (bare_shell h)).rows
      (subst (λ (n : ℕ). AllByRecursion (λ (r : Row). r.at.face.0 < n) (shell_rows s turned).rows) faces_few (faces_low s (Some turned))) told_kept told_turned

  pub shell_differs : PartnersDiffer (shell_rows s kept) → PartnersDiffer (shell_rows s turned)
  shell_differs differ = opposite_differ (shell_rows s kept) (shell_rows s turned) rows_opposite differ

-- under the reverse of a list the two uses of each edge run in opposite directions too
pub reversed_differ : (s : SolidData) (o : Option Shell) (flags : List Bool) → length flags ≡ length (face_flags o)
    → PartnersDiffer (rows_of s (option_map (shell_with flags) o)) → PartnersDiffer (rows_of s (option_map (shell_with (reversed flags)) o))
reversed_differ s None flags e differ = differ
reversed_differ s (Some h) flags e differ = shell_differs s h flags (e ∙ length-map h.faces (λ (f : FaceUse). f.flag)) differ
