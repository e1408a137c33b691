-- What two accepted certificates of one open shell have in common.
use Rattle.std.specs.Prelude.{◌≡◌, ◌⊎◌, ℕ, List}
use Rattle.std.specs.List.{AllZip}
use Rattle.iges_params.specs.Contents.{Contents}
use Rattle.iges_params.specs.Limits.{FitsLimits}
use Rattle.cert_lines.specs.Line.{cut_lines}
use Rattle.open_certificate.specs.Line.{reach, IsSpelled}
use Rattle.open_commands.specs.Verdict.{IsOpenAcceptedFor}

abbrev pub IsReachLine : List ℕ → Type 0
IsReachLine line = (r : ℕ) × IsSpelled line (reach r)

-- The lines are the same, or both are reach lines.
abbrev pub AlikeButReach : List ℕ → List ℕ → Type 0
AlikeButReach a b = (a ≡ b) ⊎ (IsReachLine a × IsReachLine b)

-- Two accepted certificates of one shell, in a file within its limits, differ in reach lines alone.
abbrev pub AcceptedDifferInReach : Type 0
AcceptedDifferInReach = (f : Contents) (n : ℕ) (a b : List ℕ) → FitsLimits f → IsOpenAcceptedFor f a n → IsOpenAcceptedFor f b n
    → AllZip AlikeButReach (cut_lines a) (cut_lines b)
