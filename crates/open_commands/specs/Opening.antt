-- The first two lines of an open shell's certificate: the head, and the line that names the shell.
use Rattle.std.specs.Prelude.{◌≡◌, ◌⊎◌, ℕ, List, [], ◌∷◌}
use Rattle.cert_lines.specs.Line.{cut_lines}
use Rattle.cert_lines.specs.Opening.{illegal_at}
use Rattle.cert_text.specs.declared.fault.Illegal.{Illegal}
use Rattle.cert_text.specs.declared.fault.Illegal.TheVariants.{Missing}
use Rattle.cert_text.specs.declared.fault.Misfit.{Misfit}
use Rattle.open_certificate.specs.Line.{OpenLine, head, IsSpelled}
use Rattle.open_certificate.specs.Line.{IsHeadLine, IsShell, NamesShell, IsOf, IsMisfit}

-- The certificate begins with the head, and these are the lines after it, of which the first is a SHELL line of number n.
pub record OpensShell (certificate : List ℕ) (n : ℕ) (lines : List (List ℕ)) : Type 0 where
  pub first : List ℕ
  pub second : List ℕ
  pub rest : List (List ℕ)
  pub cut : cut_lines certificate ≡ first ∷ lines
  pub behind : lines ≡ second ∷ rest
  pub is_head : IsSpelled first head
  pub names : IsOf (NamesShell n) second

-- what is wrong with the line of this number
abbrev pub IsWrong : (OpenLine → Type 0) → ℕ → List ℕ → Illegal → Type 0
IsWrong Wanted number bytes bad = (misfit : Misfit) × IsMisfit Wanted bytes misfit × (bad ≡ illegal_at misfit number)

abbrev pub IsSecondWrong : List (List ℕ) → Illegal → Type 0
IsSecondWrong [] bad = bad ≡ Missing 2
IsSecondWrong (second ∷ rest) bad = IsWrong IsShell 2 second bad

abbrev pub IsFirstWrong : List (List ℕ) → Illegal → Type 0
IsFirstWrong [] bad = bad ≡ Missing 1
IsFirstWrong (first ∷ lines) bad = IsWrong IsHeadLine 1 first bad ⊎ (IsSpelled first head × IsSecondWrong lines bad)

-- the first of the two that is missing, misspelt or unfit
abbrev pub IsBadOpening : List ℕ → Illegal → Type 0
IsBadOpening certificate bad = IsFirstWrong (cut_lines certificate) bad
