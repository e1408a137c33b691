-- Which whole text is an orientation of a solid, and what is first bad of one that isn't.
use Rattle.std.specs.Prelude.{◌≡◌, ◌⊎◌, ℕ, suc, ◌+◌, ◌<◌, List, [], ◌∷◌, length, map}
use Rattle.std.specs.List.{AllByRecursion, enumerate_from}
use Rattle.solid_data.specs.Obligations.{FirstNot}
use Rattle.solid_data.specs.SolidData.{SolidData}
use Rattle.cert_lines.specs.Line.{cut_lines}
use Rattle.cert_text.specs.declared.fault.Illegal.{Illegal}
use Rattle.cert_text.specs.declared.fault.Illegal.TheVariants.{Misspelt, Unfit, Missing}
use Rattle.orient_certificate.specs.Flags.{FlagsFit}
use Rattle.orient_certificate.specs.OddRing.{OddRing}
use Rattle.orient_certificate.specs.Line.{IsSpelled}
use Rattle.orient_certificate.specs.declared.line.OrientLine.{OrientLine}
use Rattle.orient_certificate.specs.declared.line.OrientLine.TheVariants.{Head, Flags, Ring, End}

-- the numbers, which count from 1, name rows of shell k that are an odd ring
abbrev pub NameOddRing : SolidData → ℕ → List ℕ → Type 0
NameOddRing s k numbers = (rows : List ℕ) × (numbers ≡ map suc rows) × OddRing s k rows

-- Line i is the one of shell k, which it numbers from 1: line 2 is that of the first shell.
pub record IsLineOf (s : SolidData) (i number k : ℕ) : Type 0 where
  pub within : k < length s.shells
  pub numbered : number ≡ k + 1
  pub at : i ≡ k + 2

-- It fits as line i after the head: flags or a ring of the shell whose line that is, and END after the line of the last shell.
abbrev pub FitsAs : SolidData → ℕ → OrientLine → Type 0
FitsAs s i (Head solid) = ⊥
FitsAs s i (Flags shell flags) = (k : ℕ) × IsLineOf s i shell k × FlagsFit s k flags
FitsAs s i (Ring shell numbers) = (k : ℕ) × IsLineOf s i shell k × NameOddRing s k numbers
FitsAs s i End = i ≡ length s.shells + 2

-- the bytes of a line, which is given with its number, spell one that fits
abbrev pub Fits : SolidData → ℕ × List ℕ → Type 0
Fits s l = (line : OrientLine) × IsSpelled l.1 line × FitsAs s l.0 line

-- The lines, of which the first has this number, fit, and END is the last.
pub record AreWhole (s : SolidData) (first : ℕ) (lines : List (List ℕ)) : Type 0 where
  pub each : AllByRecursion (Fits s) (enumerate_from first lines)
  pub ended : first + length lines ≡ length s.shells + 3

-- what is wrong with a line that doesn't fit: nothing is spelled so, or it is spelled
abbrev pub IsWrong : ℕ × List ℕ → Illegal → Type 0
IsWrong l bad = (((line : OrientLine) → ¬ IsSpelled l.1 line) × (bad ≡ Misspelt l.0)) ⊎ ((line : OrientLine) × IsSpelled l.1 line × (bad ≡ Unfit l.0))

-- some line doesn't fit, and this is wrong with the first of them
pub record HasWrong (s : SolidData) (first : ℕ) (lines : List (List ℕ)) (bad : Illegal) : Type 0 where
  pub line : ℕ × List ℕ
  pub is_first : FirstNot (Fits s) (enumerate_from first lines) line
  pub wrong : IsWrong line bad

-- all lines fit, and the next one is missing, since END has not come
pub record LacksNext (s : SolidData) (first : ℕ) (lines : List (List ℕ)) (bad : Illegal) : Type 0 where
  pub each : AllByRecursion (Fits s) (enumerate_from first lines)
  pub unended : first + length lines < length s.shells + 3
  pub missing : bad ≡ Missing (first + length lines)

-- what is first bad of the lines, of which the first has this number
abbrev pub IsFirstBad : SolidData → ℕ → List (List ℕ) → Illegal → Type 0
IsFirstBad s first lines bad = HasWrong s first lines bad ⊎ LacksNext s first lines bad

-- Line 1 of the text names solid n, and these are the lines after it.
pub record Names (text : List ℕ) (n : ℕ) (lines : List (List ℕ)) : Type 0 where
  pub head : List ℕ
  pub cut : cut_lines text ≡ head ∷ lines
  pub names : IsSpelled head (Head (record { 0 = n }))

abbrev pub IsHeadLine : OrientLine → Type 0
IsHeadLine line = (n : ℕ) × (line ≡ Head (record { 0 = n }))

-- what is wrong with line 1: it is missing, misspelt, or another line than a head
abbrev pub IsBadFirst : List (List ℕ) → Illegal → Type 0
IsBadFirst [] bad = bad ≡ Missing 1
IsBadFirst (head ∷ lines) bad = (((line : OrientLine) → ¬ IsSpelled head line) × (bad ≡ Misspelt 1))
    ⊎ ((line : OrientLine) × IsSpelled head line × ¬ IsHeadLine line × (bad ≡ Unfit 1))

abbrev pub IsBadHead : List ℕ → Illegal → Type 0
IsBadHead text bad = IsBadFirst (cut_lines text) bad
