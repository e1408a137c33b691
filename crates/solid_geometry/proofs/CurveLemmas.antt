-- What is known of curves.
use Rattle.std.specs.Prelude.{◌≡◌, ◌↔◌, ℕ, zero, suc, ℤ, List, [], ◌∷◌, length, map, Option, Some, None, IsSome, IsTrue, option_map, slice_get}
use Rattle.std.specs.List.{AllZip}
use Rattle.std.proofs.Common.{refl, sym, ap, ◌∙◌, subst}
use Rattle.std.proofs.lemmas.Bool.{true≢false}
use Rattle.std.proofs.lemmas.Option.{same_Some, none-some, slice_get-map}
use Rattle.iges_params.specs.Contents.{Contents}
use Rattle.record_numbers.specs.EqualRecords.{AreFair}
use Rattle.record_numbers.specs.Keys.{KeyMap, AreNumbers}
use Rattle.shell_change.specs.declared.geometry.CurveKnown.{CurveKnown}
use Rattle.solid_geometry.specs.Curves.{is_line, HaveSamePoints}
use Rattle.solid_geometry.specs.Known.{records_of, AreCurvesOf}
use Rattle.solid_geometry.specs.Lines.{IsLineOf, IsLineNumber}
use Rattle.solid_geometry.proofs.PointPairs.{lines_agree}

pub zip_length : {A B : Type 0} (R : A → B → Type 0) (xs : List A) (ys : List B) → AllZip R xs ys → length ys ≡ length xs
zip_length R [] [] h = refl
zip_length R [] (y ∷ ys) h = absurd h
zip_length R (x ∷ xs) [] h = absurd h
zip_length R (x ∷ xs) (y ∷ ys) h = ap suc (zip_length R xs ys h.1)

zip_at : {A B : Type 0} (R : A → B → Type 0) (xs : List A) (ys : List B) (i : ℕ) (x : A) (y : B) → AllZip R xs ys → slice_get xs i ≡ Some x → slice_get ys i ≡ Some y
    → R x y
zip_at R [] ys i x y h ex ey = absurd (none-some x ex)
zip_at R (a ∷ xs) [] i x y h ex ey = absurd h
zip_at R (a ∷ xs) (b ∷ ys) zero x y h ex ey = subst (R x) (same_Some b y ey) (subst (λ z. R z b) (same_Some a x ex) h.0)
zip_at R (a ∷ xs) (b ∷ ys) (suc i) x y h ex ey = zip_at R xs ys i x y h.1 ex ey

module _ {Z : Type 0} (f : Contents) (points pairs : KeyMap Z) (p : AreNumbers points) (q : AreNumbers pairs)
    (zs : List ℤ) (records : List ℕ) (lines : List (Option ℕ)) (curves : List CurveKnown) where
  line_at : map (λ (c : CurveKnown). c.line) curves ≡ lines → AllZip (IsLineOf f points pairs) zs lines
      → (i : ℕ) (z : ℤ) (c : CurveKnown) → slice_get zs i ≡ Some z → slice_get curves i ≡ Some c → IsLineOf f points pairs z c.line
  line_at e h i z c ez ec =
      zip_at (IsLineOf f points pairs) zs lines i z c.line h ez
      (ap (λ (os : List (Option ℕ)). slice_get os i) (sym e)
      ∙ (slice_get-map (λ (c : CurveKnown). c.line) curves i ∙ ap (option_map (λ (c : CurveKnown). c.line)) ec))

  told : (z : ℤ) (o : Option ℕ) → IsLineOf f points pairs z o → IsSome o ↔ IsTrue (is_line f z)
  told z None h = (λ s. absurd (true≢false (sym s)), λ l. absurd (true≢false (sym l ∙ h)))
  told z (Some n) h = (λ s. h.0, λ l. refl)

  number : (z : ℤ) (o : Option ℕ) (n : ℕ) → o ≡ Some n → IsLineOf f points pairs z o → IsLineNumber f points pairs z n
  number z None n e h = absurd (none-some n e)
  number z (Some m) n e h = subst (IsLineNumber f points pairs z) (same_Some m n e) h.1

  pub curves_are : AreFair f zs records → AllZip (IsLineOf f points pairs) zs lines → records_of curves ≡ records
      → map (λ (c : CurveKnown). c.line) curves ≡ lines → AreCurvesOf f zs curves
  curves_are fair h er el = record {
    records = subst (AreFair f zs) (sym er) fair;
    lines = λ i z c ez ec. told z c.line (line_at el h i z c ez ec);
    same_lines = λ i j y z b c m n ey ez eb ec em en.
        lines_agree f points pairs p q y z m n (number y b.line m em (line_at el h i y b ey eb)) (number z c.line n en (line_at el h j z c ez ec));
  }
