-- Private: legal lines and the first bad one by recursion, as the code reads them: each after the lines before it, which are given the latest first.
use Rattle.std.specs.Prelude.{◌≡◌, ℕ, ◌+◌, ◌⊎◌, true, false, List, [], ◌∷◌, length}
use Rattle.solid_data.specs.SolidData.{SolidData}
use Rattle.cert_lines.specs.Line.{CertLine, IsLine, line_limit}
use Rattle.cert_state.specs.Progress.{Progress, progress_from_latest, FitsLine}
use Rattle.topo_certificate.specs.Legal.{IsBadLine}
use Rattle.cert_lines.specs.declared.version.Version.{Version}
use Rattle.cert_text.specs.declared.fault.Illegal.{Illegal}
use Rattle.cert_text.specs.declared.fault.Illegal.TheVariants.{Missing}

abbrev pub IsLegalAfter : Version → SolidData → List CertLine → List (List ℕ) → Type 0
IsLegalAfter v s before [] = (progress_from_latest v s before).ended ≡ true
IsLegalAfter v s before (bytes ∷ rest) = (line : CertLine) × IsLine (line_limit s) bytes line × FitsLine s (progress_from_latest v s before) line
    × IsLegalAfter v s (line ∷ before) rest

-- the lines before are numbered from this number on
abbrev pub IsFirstBadAfter : Version → SolidData → (Progress → CertLine → Type 0) → ℕ → List CertLine → List (List ℕ) → Illegal → Type 0
IsFirstBadAfter v s Fits first before [] bad = ((progress_from_latest v s before).ended ≡ false) × (bad ≡ Missing (first + length before))
IsFirstBadAfter v s Fits first before (bytes ∷ rest) bad =
    IsBadLine s (Fits (progress_from_latest v s before)) (first + length before) bytes bad
    ⊎ ((line : CertLine) × IsLine (line_limit s) bytes line × FitsLine s (progress_from_latest v s before) line × IsFirstBadAfter v s Fits first (line ∷ before)
    rest bad)
