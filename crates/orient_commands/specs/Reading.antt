-- Private: what is known while the text of an orientation is read or written.
use Rattle.std.specs.Prelude.{◌≡◌, ◌⊎◌, ℕ, ⊤, Bool, List, ◌∷◌, ◌++◌, length}
use Rattle.std.specs.List.{AllByRecursion, enumerate_from}
use Rattle.std.specs.Bool.{MatchBool}
use Rattle.solid_data.specs.SolidData.{SolidData}
use Rattle.cert_lines.specs.Line.{cut_lines}
use Rattle.cert_text.specs.declared.fault.Illegal.{Illegal}
use Rattle.orient_certificate.specs.Line.{IsSpelled}
use Rattle.orient_certificate.specs.declared.line.OrientLine.TheVariants.{Head}
use Rattle.command_replies.specs.Due.{Exactly}
use Rattle.command_replies.specs.Texts.{accepted_line, illegal_line}
use Rattle.command_replies.specs.declared.answer.Answer.TheVariants as answer
use Rattle.command_replies.specs.declared.reply.Reply.{Reply}
use Rattle.orient_commands.specs.Due.{HasRing}
use Rattle.orient_commands.specs.Text.{Fits, AreWhole, IsFirstBad}
use Rattle.orient_commands.specs.declared.fault.TextFault.{TextFault}
use Rattle.orient_commands.specs.declared.fault.TextFault.TheVariants.{Bad, NoMemory}

-- what a fault says, by which lines may be bad
abbrev pub IsTextFault : (Illegal → Type 0) → TextFault → Type 0
IsTextFault IsBad (Bad bad) = IsBad bad
IsTextFault IsBad NoMemory = ⊤

-- The first line of the text fits as the line of this number, and after it comes the rest.
pub record FitsFirst (s : SolidData) (number : ℕ) (text rest : List ℕ) : Type 0 where
  pub line : List ℕ
  pub cut : cut_lines text ≡ line ∷ cut_lines rest
  pub fits : Fits s (number, line)

-- What is shown of the rest, from the line of this number on, is shown of all lines from line 2 on.
pub record IsRestOf (s : SolidData) (text : List ℕ) (number : ℕ) (rest : List ℕ) : Type 0 where
  pub whole : AreWhole s number (cut_lines rest) → AreWhole s 2 (cut_lines text)
  pub bad : (bad : Illegal) → IsFirstBad s number (cut_lines rest) bad → IsFirstBad s 2 (cut_lines text) bad

-- The text is a head that names solid n and so many lines that fit after it, among them that of a ring where ringed says so.
pub record IsBegun (s : SolidData) (n count : ℕ) (ringed : Bool) (text : List ℕ) : Type 0 where
  pub head : List ℕ
  pub lines : List (List ℕ)
  pub cut : (more : List ℕ) → cut_lines (text ++ more) ≡ head ∷ lines ++ cut_lines more
  pub names : IsSpelled head (Head (record { 0 = n }))
  pub each : AllByRecursion (Fits s) (enumerate_from 2 lines)
  pub counted : length lines ≡ count
  pub rings : MatchBool ringed (HasRing lines) (¬ HasRing lines)

-- The reply says which is the first bad line of these from line 2 on, or that they are accepted for solid n.
abbrev pub IsOfLines : SolidData → ℕ → List (List ℕ) → Reply → Type 0
IsOfLines s n lines reply =
    ((bad : Illegal) × IsFirstBad s 2 lines bad × Exactly answer.No (illegal_line bad) reply.answer reply.text)
    ⊎ (AreWhole s 2 lines × Exactly answer.Done (accepted_line n) reply.answer reply.text)
