-- Which lines after the head and the line of the solid make a certificate legal, and which is the first bad one.
use Rattle.std.specs.Prelude.{◌≡◌, ℕ, ◌+◌, ◌<◌, ◌⊎◌, false, List, [], ◌∷◌, ◌++◌, length, take, Some, slice_get}
use Rattle.std.specs.List.{AllZip}
use Rattle.solid_data.specs.SolidData.{SolidData}
use Rattle.cert_lines.specs.Line.{CertLine, solid, end, IsLine, IsLong, IsMisspelt, line_limit}
use Rattle.cert_state.specs.Progress.{Progress, progress_after, FitsLine}
use Rattle.cert_lines.specs.declared.version.Version.{Version}
use Rattle.cert_text.specs.declared.fault.Illegal.{Illegal}
use Rattle.cert_text.specs.declared.fault.Illegal.TheVariants.{Misspelt, Unfit, Missing}

-- The lines are spelled as these, one by one, and each fits after those before it.
pub record AreFitting (v : Version) (s : SolidData) (lines : List (List ℕ)) (read : List CertLine) : Type 0 where
  pub spelled : AllZip (IsLine (line_limit s)) lines read
  pub fit : (i : ℕ) (line : CertLine) → slice_get read i ≡ Some line → FitsLine s (progress_after v s (take i read)) line

-- The lines fit, and END is the last.
pub record IsLegal (v : Version) (s : SolidData) (lines : List (List ℕ)) : Type 0 where
  pub read : List CertLine
  pub fitting : AreFitting v s lines read
  pub before : List CertLine
  pub ended : read ≡ before ++ end ∷ []

-- The bytes are too long, or they are spelled and don't fit.
abbrev pub IsUnfit : SolidData → (CertLine → Type 0) → List ℕ → Type 0
IsUnfit s Fits bytes = IsLong (line_limit s) bytes ⊎ ((line : CertLine) × IsLine (line_limit s) bytes line × ¬ Fits line)

-- what is wrong with the bytes of the line of this number
abbrev pub IsBadLine : SolidData → (CertLine → Type 0) → ℕ → List ℕ → Illegal → Type 0
IsBadLine s Fits number bytes bad = (IsMisspelt (line_limit s) bytes × (bad ≡ Misspelt number)) ⊎ (IsUnfit s Fits bytes × (bad ≡ Unfit number))

-- the first of these lines is bad, or there is none and END has not come
abbrev pub IsBadNext : SolidData → (Progress → CertLine → Type 0) → Progress → ℕ → List (List ℕ) → Illegal → Type 0
IsBadNext s Fits at number [] bad = (at.ended ≡ false) × (bad ≡ Missing number)
IsBadNext s Fits at number (bytes ∷ rest) bad = IsBadLine s (Fits at) number bytes bad

-- Of lines numbered from this number on: some fit, and the next one is misspelt, unfit or missing.
pub record HasFirstBad (v : Version) (s : SolidData) (Fits : Progress → CertLine → Type 0) (first : ℕ) (lines : List (List ℕ)) (bad : Illegal) : Type 0 where
  pub good : List (List ℕ)
  pub read : List CertLine
  pub fitting : AreFitting v s good read
  pub rest : List (List ℕ)
  pub cut : lines ≡ good ++ rest
  pub next : IsBadNext s Fits (progress_after v s read) (first + length read) rest bad

abbrev pub IsFirstBad : Version → SolidData → ℕ → List (List ℕ) → Illegal → Type 0
IsFirstBad v s first lines bad = HasFirstBad v s (FitsLine s) first lines bad

-- In a part of a book, where END fits, a line fits too that names a solid with a greater number: it begins the next part.
abbrev pub BeginsNext : SolidData → Progress → ℕ → Type 0
BeginsNext s at n = FitsLine s at end × (s.entity.0 < n)

abbrev pub FitsPart : SolidData → Progress → CertLine → Type 0
FitsPart s at line = FitsLine s at line ⊎ ((n : ℕ) × (line ≡ solid n) × BeginsNext s at n)

abbrev pub IsPartBad : Version → SolidData → ℕ → List (List ℕ) → Illegal → Type 0
IsPartBad v s first lines bad = HasFirstBad v s (FitsPart s) first lines bad
