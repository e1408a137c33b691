-- Legal lines have no first bad one, and there is one at most; of obligations one at most is the first false one.
use Rattle.std.specs.Prelude.{◌≡◌, ℕ, true, false, List, [], ◌∷◌}
use Rattle.std.proofs.Common.{sym, ◌∙◌, subst, inl, inr, ⊎_elim}
use Rattle.solid_data.specs.SolidData.{SolidData}
use Rattle.cert_text.specs.declared.fault.Illegal.{Illegal}
use Rattle.open_certificate.specs.Line.{OpenLine, IsSpelled}
use Rattle.open_certificate.specs.Progress.{progress_from_latest, FitsLine}
use Rattle.open_certificate.specs.Legal.{IsLegalAfter, IsBadLine, IsFirstBadAfter, IsOpenLegal, IsOpenFirstBad}
use Rattle.open_certificate.specs.Obligations.{OpenObligation, AllHold, FirstFalse}
use Rattle.open_certificate.specs.declared.verdict.OpenFailing.{OpenFailing}
use Rattle.open_certificate.proofs.Spelling.{line_one}

true_false : true ≡ false → ⊥
true_false h = cc

-- a line that is spelled and fits isn't bad
good_bad : (s : SolidData) (before : List OpenLine) (bytes : List ℕ) (l : OpenLine) (bad : Illegal) → IsSpelled bytes l
    → FitsLine s (progress_from_latest s before) l → IsBadLine s before bytes bad → ⊥
good_bad s before bytes l bad is_l fits b =
    ⊎_elim (λ misspelt. misspelt.0 l is_l)
    (λ unfit. unfit.0.2 (subst (FitsLine s (progress_from_latest s before)) (line_one bytes l unfit.0.0 is_l unfit.0.1) fits)) b

-- a line is bad in one way
one_badness : (s : SolidData) (before : List OpenLine) (bytes : List ℕ) (x y : Illegal) → IsBadLine s before bytes x → IsBadLine s before bytes y → x ≡ y
one_badness s before bytes x y (inl p) (inl q) = p.1 ∙ sym q.1
one_badness s before bytes x y (inl p) (inr q) = absurd (p.0 q.0.0 q.0.1)
one_badness s before bytes x y (inr p) (inl q) = absurd (q.0 p.0.0 p.0.1)
one_badness s before bytes x y (inr p) (inr q) = p.1 ∙ sym q.1

no_bad : (s : SolidData) (before : List OpenLine) (lines : List (List ℕ)) (bad : Illegal) → IsLegalAfter s before lines → IsFirstBadAfter s before lines bad → ⊥
no_bad s before [] bad legal first = true_false (sym legal ∙ first.0)
no_bad s before (bytes ∷ rest) bad (l, is_l, fits, more) (inl b) = good_bad s before bytes l bad is_l fits b
no_bad s before (bytes ∷ rest) bad (l, is_l, fits, more) (inr (m, is_m, fits_m, later)) =
    no_bad s (l ∷ before) rest bad more (subst (λ x. IsFirstBadAfter s (x ∷ before) rest bad) (line_one bytes m l is_m is_l) later)

one_bad : (s : SolidData) (before : List OpenLine) (lines : List (List ℕ)) (x y : Illegal) → IsFirstBadAfter s before lines x
    → IsFirstBadAfter s before lines y → x ≡ y
one_bad s before [] x y p q = p.1 ∙ sym q.1
one_bad s before (bytes ∷ rest) x y (inl p) (inl q) = one_badness s before bytes x y p q
one_bad s before (bytes ∷ rest) x y (inl p) (inr (l, is_l, fits, later)) = absurd (good_bad s before bytes l x is_l fits p)
one_bad s before (bytes ∷ rest) x y (inr (l, is_l, fits, later)) (inl q) = absurd (good_bad s before bytes l y is_l fits q)
one_bad s before (bytes ∷ rest) x y (inr (l, is_l, fits, later)) (inr (m, is_m, fits_m, later_m)) =
    one_bad s (l ∷ before) rest x y later (subst (λ z. IsFirstBadAfter s (z ∷ before) rest y) (line_one bytes m l is_m is_l) later_m)

pub legal_has_no_bad : (s : SolidData) (lines : List (List ℕ)) (bad : Illegal) → IsOpenLegal s lines → IsOpenFirstBad s lines bad → ⊥
unfolding IsOpenLegal IsOpenFirstBad
legal_has_no_bad s lines bad = no_bad s [] lines bad

pub one_first_bad : (s : SolidData) (lines : List (List ℕ)) (x y : Illegal) → IsOpenFirstBad s lines x → IsOpenFirstBad s lines y → x ≡ y
unfolding IsOpenFirstBad
one_first_bad s lines x y = one_bad s [] lines x y

pub no_first_false : (os : List OpenObligation) (x : OpenFailing) → AllHold os → FirstFalse os x → ⊥
no_first_false [] x all h = h
no_first_false (o ∷ os) x all h = ⊎_elim (λ bad. bad.0 all.0) (λ rest. no_first_false os x all.1 rest.1) h

pub one_first_false_of : (os : List OpenObligation) (x y : OpenFailing) → FirstFalse os x → FirstFalse os y → x ≡ y
one_first_false_of [] x y p q = absurd p
one_first_false_of (o ∷ os) x y (inl p) (inl q) = p.1 ∙ sym q.1
one_first_false_of (o ∷ os) x y (inl p) (inr q) = absurd (p.0 q.0)
one_first_false_of (o ∷ os) x y (inr p) (inl q) = absurd (q.0 p.0)
one_first_false_of (o ∷ os) x y (inr p) (inr q) = one_first_false_of os x y p.1 q.1
