-- What the verdict, accepted certificates and the answers that are owed say of each other.
use Rattle.std.specs.Prelude.{◌≡◌, ◌↔◌, ℕ, List, filter_map}
use Rattle.std.specs.List.{AllZip}
use Rattle.iges_params.specs.Contents.{Contents}
use Rattle.iges_params.specs.Limits.{FitsLimits}
use Rattle.brep_walk.specs.OpenPlaces.{shell_solid_of}
use Rattle.command_replies.specs.declared.answer.Answer.{Answer}
use Rattle.command_replies.specs.declared.answer.Answer.TheVariants.{No}
use Rattle.open_certificate.specs.Laws.{AreAllBorders, cycle_in}
use Rattle.open_certificate.specs.Legal.{IsOpenLegal}
use Rattle.open_certificate.specs.Line.{OpenLine, IsSpelled}
use Rattle.open_certificate.specs.Progress.{shell_of}
use Rattle.solid_data.specs.Obligations.{AllHold}
use Rattle.open_commands.specs.Verdict.{IsOpenAcceptedFor}
use Rattle.open_commands.specs.Verdict.{open_checked}
use Rattle.open_commands.specs.Due.{OfOpen, OfOpenVerify}
use Rattle.open_commands.specs.Opening.{OpensShell}
use Rattle.open_commands.specs.Verdict.{IsOpenVerdict, sound}

-- In a file within its limits, a shell is sound exactly where some certificate that names it is accepted.
abbrev pub SoundExactlyWhereAccepted : Type 0
SoundExactlyWhereAccepted = (f : Contents) (n : ℕ) → FitsLimits f → IsOpenVerdict f n sound ↔ ((certificate : List ℕ) × IsOpenAcceptedFor f certificate n)

-- The border lines of an accepted certificate, in a file within its limits, are cycles that hold each border row once.
abbrev pub BordersAreCycles : Type 0
BordersAreCycles = (f : Contents) (n : ℕ) (certificate : List ℕ) (lines : List OpenLine) → FitsLimits f → (accepted : IsOpenAcceptedFor f certificate n)
    → AllZip IsSpelled accepted.lines lines
    → AreAllBorders (shell_of (shell_solid_of f n)) (filter_map cycle_in lines)

-- A certificate is accepted exactly where it opens so, all that is checked holds, and its further lines are legal.
abbrev pub AcceptedIsChecked : Type 0
AcceptedIsChecked = (f : Contents) (certificate : List ℕ) (n : ℕ)
    → IsOpenAcceptedFor f certificate n ↔
    ((lines : List (List ℕ)) × OpensShell certificate n lines × AllHold (open_checked f n) × IsOpenLegal (shell_solid_of f n) lines)

-- Two answers that are owed are the same, and so are their texts where the answer is No.
abbrev pub OneOpenAnswer : Type 0
OneOpenAnswer = (n : ℕ) (f : Contents) (a b : Answer) (t u : List ℕ) → OfOpen n f a t → OfOpen n f b u → (a ≡ b) × (a ≡ No → t ≡ u)

abbrev pub OneVerifyAnswer : Type 0
OneVerifyAnswer = (certificate : List ℕ) (f : Contents) (a b : Answer) (t u : List ℕ) → OfOpenVerify certificate f a t → OfOpenVerify certificate f b u
    → (a ≡ b) × (t ≡ u)

-- Some answer and text are owed, whatever the shell and the certificate are.
abbrev pub SomeOpenAnswer : Type 0
SomeOpenAnswer = (n : ℕ) (f : Contents) → FitsLimits f → (a : Answer) × (t : List ℕ) × OfOpen n f a t

abbrev pub SomeVerifyAnswer : Type 0
SomeVerifyAnswer = (certificate : List ℕ) (f : Contents) → (a : Answer) × (t : List ℕ) × OfOpenVerify certificate f a t
