-- Legal lines have no first bad one, and there is one at most.
use Rattle.std.specs.Prelude.{◌≡◌, ℕ, true, false, List, [], ◌∷◌}
use Rattle.std.proofs.Common.{sym, ◌∙◌, subst, arith, inl, inr, ⊎_elim}
use Rattle.solid_data.specs.SolidData.{SolidData}
use Rattle.cert_lines.specs.Line.{CertLine, IsLine, IsMisspelt, line_limit}
use Rattle.cert_lines.specs.declared.version.Version.{Version}
use Rattle.cert_state.specs.Progress.{Progress, progress_from_latest, FitsLine}
use Rattle.topo_certificate.specs.Legal.{IsLegal, IsUnfit, IsBadLine, IsFirstBad, FitsPart, IsPartBad}
use Rattle.topo_certificate.specs.After.{IsLegalAfter, IsFirstBadAfter}
use Rattle.cert_text.specs.declared.fault.Illegal.{Illegal}
use Rattle.cert_lines.proofs.Spelling.{line_one}
use Rattle.topo_certificate.proofs.Forward.{legal_behind, bad_behind}

true_false : true ≡ false → ⊥
true_false h = cc

-- a line is not misspelt, unfit and good at once
misspelt_unfit : (s : SolidData) (Fits : CertLine → Type 0) (bytes : List ℕ) → IsMisspelt (line_limit s) bytes → IsUnfit s Fits bytes → ⊥
misspelt_unfit s Fits bytes a b = ⊎_elim (λ long. a.not_long long) (λ (m, is_m, not_fit). a.none m is_m.1) b

unfit_good : (s : SolidData) (Fits : CertLine → Type 0) (bytes : List ℕ) (l : CertLine) → IsLine (line_limit s) bytes l → Fits l → IsUnfit s Fits bytes → ⊥
unfit_good s Fits bytes l is_l fits b =
    ⊎_elim (λ long. omega (arith, long.0, is_l.0)) (λ (m, is_m, not_fit). not_fit (subst Fits (line_one bytes l m is_l.1 is_m.1) fits)) b

pub bad_good : (s : SolidData) (Fits : CertLine → Type 0) (number : ℕ) (bytes : List ℕ) (l : CertLine) (bad : Illegal) → IsLine (line_limit s) bytes l → Fits l
    → IsBadLine s Fits number bytes bad → ⊥
bad_good s Fits number bytes l bad is_l fits (inl misspelt) = misspelt.0.none l is_l.1
bad_good s Fits number bytes l bad is_l fits (inr unfit) = unfit_good s Fits bytes l is_l fits unfit.0

pub one_bad_line : (s : SolidData) (Fits : CertLine → Type 0) (number : ℕ) (bytes : List ℕ) (x y : Illegal) → IsBadLine s Fits number bytes x
    → IsBadLine s Fits number bytes y → x ≡ y
one_bad_line s Fits number bytes x y (inl p) (inl q) = p.1 ∙ sym q.1
one_bad_line s Fits number bytes x y (inl p) (inr q) = absurd (misspelt_unfit s Fits bytes p.0 q.0)
one_bad_line s Fits number bytes x y (inr p) (inl q) = absurd (misspelt_unfit s Fits bytes q.0 p.0)
one_bad_line s Fits number bytes x y (inr p) (inr q) = p.1 ∙ sym q.1

-- all lines that fit, fit so too
pub Covers : SolidData → (Progress → CertLine → Type 0) → Type 0
Covers s Fits = (at : Progress) (line : CertLine) → FitsLine s at line → Fits at line

-- Legal lines have no first bad one.
no_bad : (version : Version) (s : SolidData) (Fits : Progress → CertLine → Type 0) (first : ℕ) → Covers s Fits
    → (before : List CertLine) (lines : List (List ℕ)) (bad : Illegal) → IsLegalAfter version s before lines
    → IsFirstBadAfter version s Fits first before lines bad → ⊥
unfolding Covers
no_bad version s Fits first covers before [] bad legal h = true_false (sym legal ∙ h.0)
no_bad version s Fits first covers before (bytes ∷ rest) bad (l, is_l, fits, more) (inl h) = bad_good s (Fits (progress_from_latest version s before)) _ bytes l
    bad is_l (covers (progress_from_latest version s before) l fits) h
no_bad version s Fits first covers before (bytes ∷ rest) bad (l, is_l, fits, more) (inr (m, is_m, fits_m, later)) =
    no_bad version s Fits first covers (l ∷ before) rest bad more
    (subst (λ x. IsFirstBadAfter version s Fits first (x ∷ before) rest bad) (line_one bytes m l is_m.1 is_l.1) later)

-- There is one first bad one at most.
one_bad : (version : Version) (s : SolidData) (Fits : Progress → CertLine → Type 0) (first : ℕ) → Covers s Fits
    → (before : List CertLine) (lines : List (List ℕ)) (x y : Illegal) → IsFirstBadAfter version s Fits first before lines x
    → IsFirstBadAfter version s Fits first before lines y → x ≡ y
unfolding Covers
one_bad version s Fits first covers before [] x y p q = p.1 ∙ sym q.1
one_bad version s Fits first covers before (bytes ∷ rest) x y (inl p) (inl q) = one_bad_line s (Fits (progress_from_latest version s before)) _ bytes x y p q
one_bad version s Fits first covers before (bytes ∷ rest) x y (inl p) (inr (l, is_l, fits, later)) =
    absurd (bad_good s (Fits (progress_from_latest version s before)) _ bytes l x is_l (covers (progress_from_latest version s before) l fits) p)
one_bad version s Fits first covers before (bytes ∷ rest) x y (inr (l, is_l, fits, later)) (inl q) =
    absurd (bad_good s (Fits (progress_from_latest version s before)) _ bytes l y is_l (covers (progress_from_latest version s before) l fits) q)
one_bad version s Fits first covers before (bytes ∷ rest) x y (inr (l, is_l, fits, later)) (inr (m, is_m, fits_m, later_m)) =
    one_bad version s Fits first covers (l ∷ before) rest x y later
    (subst (λ z. IsFirstBadAfter version s Fits first (z ∷ before) rest y) (line_one bytes m l is_m.1 is_l.1) later_m)

covers_lines : (s : SolidData) → Covers s (FitsLine s)
unfolding Covers
covers_lines s at line h = h

pub covers_parts : (s : SolidData) → Covers s (FitsPart s)
unfolding Covers
covers_parts s at line h = inl h

pub legal_has_no_bad_lem : (version : Version) (s : SolidData) (first : ℕ) (lines : List (List ℕ)) (bad : Illegal) → IsLegal version s lines
    → IsFirstBad version s first lines bad → ⊥
legal_has_no_bad_lem version s first lines bad legal h = no_bad version s (FitsLine s) first (covers_lines s) [] lines bad (legal_behind version s lines legal)
    (bad_behind version s (FitsLine s) first lines bad h)

pub one_first_bad : (version : Version) (s : SolidData) (first : ℕ) (lines : List (List ℕ)) (x y : Illegal) → IsFirstBad version s first lines x
    → IsFirstBad version s first lines y → x ≡ y
one_first_bad version s first lines x y a b = one_bad version s (FitsLine s) first (covers_lines s) [] lines x y
    (bad_behind version s (FitsLine s) first lines x a) (bad_behind version s (FitsLine s) first lines y b)

pub one_bad_in_part : (version : Version) (s : SolidData) (first : ℕ) (lines : List (List ℕ)) (x y : Illegal) → IsPartBad version s first lines x
    → IsPartBad version s first lines y → x ≡ y
one_bad_in_part version s first lines x y a b = one_bad version s (FitsPart s) first (covers_parts s) [] lines x y
    (bad_behind version s (FitsPart s) first lines x a) (bad_behind version s (FitsPart s) first lines y b)
