-- Steps of reading the lines of an orientation.
use Rattle.std.specs.Prelude.{◌≡◌, ℕ, ◌+◌, ◌<◌, ◌≤◌, List, [], ◌∷◌, length, Bool, false, IsTrue}
use Rattle.std.proofs.Common.{refl, sym, ◌∙◌, ap, subst, arith, inl, inr}
use Rattle.solid_data.specs.SolidData.{SolidData}
use Rattle.cert_lines.specs.Line.{cut_lines}
use Rattle.cert_text.specs.declared.fault.Illegal.{Illegal}
use Rattle.cert_text.specs.declared.fault.Illegal.TheVariants.{Misspelt, Unfit, Missing}
use Rattle.orient_certificate.specs.Line.{IsSpelled}
use Rattle.orient_certificate.specs.declared.line.OrientLine.{OrientLine}
use Rattle.orient_certificate.specs.declared.line.OrientLine.TheVariants.{Head, Flags, Ring, End}
use Rattle.orient_certificate.proofs.Lines.{line_one}
use Rattle.orient_commands.specs.Reading.{IsTextFault, FitsFirst, IsRestOf}
use Rattle.orient_commands.specs.Text.{FitsAs, Fits, AreWhole, IsFirstBad}
use Rattle.orient_commands.specs.declared.fault.TextFault.{TextFault}
use Rattle.orient_commands.specs.declared.fault.TextFault.TheVariants.{Bad, NoMemory}

pub false_never : IsTrue false → ⊥
false_never e = cc

pub not_both : (b : Bool) → b ≡ false → IsTrue b → ⊥
not_both b e is = false_never (sym e ∙ is)

pub fault_from : (P Q : Illegal → Type 0) (e : TextFault) → ((bad : Illegal) → P bad → Q bad) → IsTextFault P e → IsTextFault Q e
fault_from P Q (Bad bad) f h = f bad h
fault_from P Q NoMemory f h = h

-- behind a line that fits
pub whole_on : (s : SolidData) (i : ℕ) (l : List ℕ) (ls : List (List ℕ)) → Fits s (i, l) → AreWhole s (i + 1) ls → AreWhole s i (l ∷ ls)
whole_on s i l ls fit w = let e = w.ended in record { each = (fit, w.each); ended = omega (arith, e) }

pub bad_on : (s : SolidData) (i : ℕ) (l : List ℕ) (ls : List (List ℕ)) (bad : Illegal) → Fits s (i, l) → IsFirstBad s (i + 1) ls bad
    → IsFirstBad s i (l ∷ ls) bad
bad_on s i l ls bad fit (inl w) = inl (record { line = w.line; is_first = inr (fit, w.is_first); wrong = w.wrong })
bad_on s i l ls bad fit (inr w) =
    let few = w.unended in
    let next : (i + 1) + length ls ≡ i + length (l ∷ ls) = omega arith in
    inr (record { each = (fit, w.each); unended = omega (arith, few); missing = w.missing ∙ ap Missing next })

pub unfit_never : (s : SolidData) (i : ℕ) (l : List ℕ) (line : OrientLine) → IsSpelled l line → (FitsAs s i line → ⊥) → Fits s (i, l) → ⊥
unfit_never s i l line is never (other, spelled, fit) = never (subst (FitsAs s i) (line_one l other line spelled is) fit)

pub unfit_here : (s : SolidData) (i : ℕ) (l : List ℕ) (ls : List (List ℕ)) (line : OrientLine) → IsSpelled l line → (FitsAs s i line → ⊥)
    → IsFirstBad s i (l ∷ ls) (Unfit i)
unfit_here s i l ls line is never = inl (record { line = (i, l); is_first = inl (unfit_never s i l line is never, refl); wrong = inr (line, is, refl) })

pub misspelt_here : (s : SolidData) (i : ℕ) (l : List ℕ) (ls : List (List ℕ)) (bad : Illegal) → ((line : OrientLine) → IsSpelled l line → ⊥) → bad ≡ Misspelt i
    → IsFirstBad s i (l ∷ ls) bad
misspelt_here s i l ls bad none e = inl (record { line = (i, l); is_first = inl ((λ (line, is, fit). none line is), refl); wrong = inl (none, e) })

pub missing_here : (s : SolidData) (i : ℕ) → i < length s.shells + 3 → IsFirstBad s i [] (Missing i)
missing_here s i few = let whole : i ≡ i + 0 = omega arith in inr (record { each = tt; unended = omega (arith, few); missing = ap Missing whole })

-- of a text's first line

pub misspelt_text : (s : SolidData) (i : ℕ) (text line : List ℕ) (rest : List (List ℕ)) (e : TextFault) → cut_lines text ≡ line ∷ rest
    → IsTextFault (λ bad. ((l : OrientLine) → IsSpelled line l → ⊥) × (bad ≡ Misspelt i)) e → IsTextFault (IsFirstBad s i (cut_lines text)) e
misspelt_text s i text line rest e cut h =
    fault_from (λ bad. ((l : OrientLine) → IsSpelled line l → ⊥) × (bad ≡ Misspelt i)) (IsFirstBad s i (cut_lines text)) e
    (λ bad w. subst (λ ls. IsFirstBad s i ls bad) (sym cut) (misspelt_here s i line rest bad w.0 w.1)) h

pub unfit_text : (s : SolidData) (i : ℕ) (text bytes : List ℕ) (rest : List (List ℕ)) (line : OrientLine) → cut_lines text ≡ bytes ∷ rest
    → IsSpelled bytes line → (FitsAs s i line → ⊥) → IsFirstBad s i (cut_lines text) (Unfit i)
unfit_text s i text bytes rest line cut is never = subst (λ ls. IsFirstBad s i ls (Unfit i)) (sym cut) (unfit_here s i bytes rest line is never)

pub missing_text : (s : SolidData) (i : ℕ) (text : List ℕ) → text ≡ [] → i < length s.shells + 3 → IsFirstBad s i (cut_lines text) (Missing i)
missing_text s i text none few = subst (λ t. IsFirstBad s i (cut_lines t) (Missing i)) (sym none) (missing_here s i few)

-- nothing fits past END
pub past_end : (s : SolidData) (i : ℕ) (line : OrientLine) → length s.shells + 3 ≤ i → FitsAs s i line → ⊥
past_end s i (Head n) past fit = fit
past_end s i (Flags shell flags) past fit = let lt = fit.1.within in let at = fit.1.at in omega (arith, past, lt, at)
past_end s i (Ring shell numbers) past fit = let lt = fit.1.within in let at = fit.1.at in omega (arith, past, lt, at)
past_end s i End past fit = omega (arith, past, fit)

-- as the last line nothing but END fits
pub at_end : (s : SolidData) (i : ℕ) (line : OrientLine) → i ≡ length s.shells + 2 → FitsAs s i line → line ≡ End
at_end s i (Head n) e fit = absurd fit
at_end s i (Flags shell flags) e fit = let lt = fit.1.within in let at = fit.1.at in absurd (omega (arith, e, lt, at))
at_end s i (Ring shell numbers) e fit = let lt = fit.1.within in let at = fit.1.at in absurd (omega (arith, e, lt, at))
at_end s i End e fit = refl

-- the rest of a text
pub rest_first : (s : SolidData) (text : List ℕ) → IsRestOf s text 2 text
rest_first s text = record { whole = λ w. w; bad = λ bad b. b }

pub rest_next : (s : SolidData) (text rest after : List ℕ) (i j : ℕ) → j ≡ i + 1 → IsRestOf s text i rest → FitsFirst s i rest after → IsRestOf s text j after
rest_next s text rest after i j e of fit = record {
  whole = λ w. of.whole (subst (AreWhole s i) (sym fit.cut) (whole_on s i fit.line (cut_lines after) fit.fits
      (subst (λ k. AreWhole s k (cut_lines after)) e w)));
  bad = λ bad b. of.bad bad (subst (λ ls. IsFirstBad s i ls bad) (sym fit.cut)
      (bad_on s i fit.line (cut_lines after) bad fit.fits (subst (λ k. IsFirstBad s k (cut_lines after) bad) e b)));
}

pub rest_fault : (s : SolidData) (text rest : List ℕ) (i : ℕ) (e : TextFault) → IsRestOf s text i rest → IsTextFault (IsFirstBad s i (cut_lines rest)) e
    → IsTextFault (IsFirstBad s 2 (cut_lines text)) e
rest_fault s text rest i e of h = fault_from (IsFirstBad s i (cut_lines rest)) (IsFirstBad s 2 (cut_lines text)) e of.bad h

pub rest_ended : (s : SolidData) (text rest : List ℕ) (i : ℕ) → IsRestOf s text i rest → i ≡ length s.shells + 3 → cut_lines rest ≡ []
    → AreWhole s 2 (cut_lines text)
rest_ended s text rest i of e none = of.whole (subst (AreWhole s i) (sym none) (record { each = tt; ended = omega (arith, e) }))
