-- It can be told whether lines are legal, and which is the first bad one.
use Rattle.std.specs.Prelude.{◌≡◌, ℕ, ◌+◌, ◌⊎◌, Bool, true, false, List, [], ◌∷◌, length}
use Rattle.std.proofs.Common.{refl, sym, ◌∙◌, subst, inl, inr, ⊎_elim}
use Rattle.solid_data.specs.SolidData.{SolidData}
use Rattle.solid_data.proofs.Decisions.{Decided, decided_alike, decided_below, decided_both, decided_either}
use Rattle.cert_lines.specs.Line.{CertLine, solid, end, IsLine, IsLong, IsMisspelt, line_limit}
use Rattle.cert_lines.specs.declared.version.Version.{Version}
use Rattle.cert_text.specs.declared.fault.Illegal.{Illegal}
use Rattle.cert_text.specs.declared.fault.Illegal.TheVariants.{Misspelt, Unfit, Missing}
use Rattle.cert_lines.proofs.Decided.{lines_are_decided}
use Rattle.cert_state.specs.Progress.{Progress, FitsLine, progress_from_latest}
use Rattle.topo_certificate.specs.Legal.{IsLegal, IsFirstBad, BeginsNext, FitsPart}
use Rattle.topo_certificate.specs.After.{IsLegalAfter, IsFirstBadAfter}
use Rattle.topo_certificate.proofs.Forward.{legal_forward, bad_forward}
use Rattle.cert_lines.specs.Opening.{IsSolid}
use Rattle.cert_lines.proofs.LineKinds.{solid_decided}
use Rattle.cert_state.proofs.FitsDecided.{line_decided}

next_decided : (s : SolidData) (at : Progress) (l : CertLine) → Decided ((n : ℕ) × (l ≡ solid n) × BeginsNext s at n)
next_decided s at l = by_solid (solid_decided l)
  where
    same_number : (m n : ℕ) → solid n ≡ solid m → n ≡ m
    same_number m n e = cc

    by_solid : Decided (IsSolid l) → Decided ((n : ℕ) × (l ≡ solid n) × BeginsNext s at n)
    by_solid (inl (n, is)) = decided_alike (λ h. (n, is, h)) (λ (m, e, h). subst (BeginsNext s at) (sym (same_number m n (sym is ∙ e))) h)
        (decided_both (line_decided s at end) (decided_below s.entity.0 n))
    by_solid (inr other) = inr (λ (n, e, h). other (n, e))

pub part_decided : (s : SolidData) (at : Progress) (l : CertLine) → Decided (FitsPart s at l)
part_decided s at l = decided_either (line_decided s at l) (next_decided s at l)

-- Behind lines before, the lines are legal or have a first bad one.
abbrev Answers : Version → SolidData → ℕ → List CertLine → List (List ℕ) → Type 0
Answers version s first before lines = IsLegalAfter version s before lines ⊎ ((bad : Illegal) × IsFirstBadAfter version s (FitsLine s) first before lines bad)

by_end : (version : Version) (s : SolidData) (first : ℕ) (before : List CertLine) (b : Bool) → (progress_from_latest version s before).ended ≡ b
    → Answers version s first before []
by_end version s first before true e = inl e
by_end version s first before false e = inr (Missing (first + length before), (e, refl))

by_later : (version : Version) (s : SolidData) (first : ℕ) (before : List CertLine) (bytes : List ℕ) (lines : List (List ℕ)) (l : CertLine)
    → IsLine (line_limit s) bytes l → FitsLine s (progress_from_latest version s before) l → Answers version s first (l ∷ before) lines
    → Answers version s first before (bytes ∷ lines)
by_later version s first before bytes lines l is fits (inl legal) = inl (l, is, fits, legal)
by_later version s first before bytes lines l is fits (inr (bad, h)) = inr (bad, inr (l, is, fits, h))

by_other : (version : Version) (s : SolidData) (first : ℕ) (before : List CertLine) (bytes : List ℕ) (lines : List (List ℕ))
    → IsLong (line_limit s) bytes ⊎ IsMisspelt (line_limit s) bytes → Answers version s first before (bytes ∷ lines)
by_other version s first before bytes lines (inl long) = inr (Unfit (first + length before), inl (inr (inl long, refl)))
by_other version s first before bytes lines (inr misspelt) = inr (Misspelt (first + length before), inl (inl (misspelt, refl)))

legal_or_bad : (version : Version) (s : SolidData) (first : ℕ) (before : List CertLine) (lines : List (List ℕ)) → Answers version s first before lines
legal_or_bad version s first before [] = by_end version s first before (progress_from_latest version s before).ended refl
legal_or_bad version s first before (bytes ∷ lines) =
    ⊎_elim
    (λ (l, is). ⊎_elim (λ fits. by_later version s first before bytes lines l is fits (legal_or_bad version s first (l ∷ before) lines))
    (λ other. inr (Unfit (first + length before), inl (inr (inr (l, is, other), refl)))) (line_decided s (progress_from_latest version s before) l))
    (λ other. by_other version s first before bytes lines other)
    (lines_are_decided (line_limit s) bytes)

pub legal_or_first_bad : (version : Version) (s : SolidData) (first : ℕ) (lines : List (List ℕ))
    → IsLegal version s lines ⊎ ((bad : Illegal) × IsFirstBad version s first lines bad)
legal_or_first_bad version s first lines = forward (legal_or_bad version s first [] lines)
  where
    forward : IsLegalAfter version s [] lines ⊎ ((bad : Illegal) × IsFirstBadAfter version s (FitsLine s) first [] lines bad)
        → IsLegal version s lines ⊎ ((bad : Illegal) × IsFirstBad version s first lines bad)
    forward (inl legal) = inl (legal_forward version s lines legal)
    forward (inr (bad, h)) = inr (bad, bad_forward version s (FitsLine s) first lines bad h)
