-- The first two lines of a certificate: the head with its version, and the solid that it names.
use Rattle.std.specs.Prelude.{ℕ, List, ◌≡◌, ◌⊎◌, [], ◌∷◌}
use Rattle.cert_lines.specs.Line.{CertLine, IsMisspelt, first_limit, head, solid, cut_lines, IsLine, IsLong}
use Rattle.cert_text.specs.declared.fault.Misfit.{Misfit}
use Rattle.cert_text.specs.declared.fault.Illegal.{Illegal}
use Rattle.cert_text.specs.declared.fault.Illegal.TheVariants.{Misspelt as MisspeltLine, Unfit as UnfitLine, Missing}
use Rattle.cert_text.specs.declared.fault.Misfit.TheVariants.{Misspelt, Unfit}
use Rattle.cert_lines.specs.declared.version.Version.{Version}

-- The certificate begins with the head of this version, and these are the lines after it.
pub record IsHeaded (certificate : List ℕ) (v : Version) (rest : List (List ℕ)) : Type 0 where
  pub first : List ℕ
  pub cut : cut_lines certificate ≡ first ∷ rest
  pub is_head : IsLine first_limit first (head v)

-- The certificate begins with the head of this version and names solid n, and these are the lines from line 3 on.
pub record Opens (certificate : List ℕ) (v : Version) (n : ℕ) (rest : List (List ℕ)) : Type 0 where
  pub first : List ℕ
  pub second : List ℕ
  pub cut : cut_lines certificate ≡ first ∷ second ∷ rest
  pub is_head : IsLine first_limit first (head v)
  pub names : IsLine first_limit second (solid n)

abbrev pub IsHeadLine : CertLine → Type 0
IsHeadLine line = (v : Version) × (line ≡ head v)

abbrev pub IsSolid : CertLine → Type 0
IsSolid line = (n : ℕ) × (line ≡ solid n)

-- The line is too long, or it is spelled and not as it should be here.
abbrev pub IsOther : (CertLine → Type 0) → List ℕ → Type 0
IsOther Wanted bytes = IsLong first_limit bytes ⊎ ((line : CertLine) × IsLine first_limit bytes line × ¬ Wanted line)

-- what is wrong with the line of this number
abbrev pub IsWrong : (CertLine → Type 0) → ℕ → List ℕ → Illegal → Type 0
IsWrong Wanted number bytes bad = (IsMisspelt first_limit bytes × (bad ≡ MisspeltLine number)) ⊎ (IsOther Wanted bytes × (bad ≡ UnfitLine number))

abbrev pub IsSecondWrong : List (List ℕ) → Illegal → Type 0
IsSecondWrong [] bad = bad ≡ Missing 2
IsSecondWrong (second ∷ rest) bad = IsWrong IsSolid 2 second bad

abbrev pub IsFirstWrong : List (List ℕ) → Illegal → Type 0
IsFirstWrong [] bad = bad ≡ Missing 1
IsFirstWrong (first ∷ lines) bad = IsWrong IsHeadLine 1 first bad ⊎ ((v : Version) × IsLine first_limit first (head v) × IsSecondWrong lines bad)

-- the first of the two that is missing, misspelt or unfit
abbrev pub IsBadOpening : List ℕ → Illegal → Type 0
IsBadOpening certificate bad = IsFirstWrong (cut_lines certificate) bad

-- The bytes spell no line, or they are too long or spell another line than this.
abbrev pub IsMisfit : (CertLine → Type 0) → List ℕ → Misfit → Type 0
IsMisfit Wanted bytes Misspelt = IsMisspelt first_limit bytes
IsMisfit Wanted bytes Unfit = IsOther Wanted bytes

-- what is wrong with the line of this number
abbrev pub illegal_at : Misfit → ℕ → Illegal
illegal_at Misspelt number = MisspeltLine number
illegal_at Unfit number = UnfitLine number
