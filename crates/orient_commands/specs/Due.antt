-- What is owed of orienting a solid, and of verifying an orientation.
use Rattle.std.specs.Prelude.{◌≡◌, ◌⊎◌, ℕ, ◌<◌, ◌≤◌, List, [], ◌∷◌, length}
use Rattle.iges_params.specs.Contents.{Contents}
use Rattle.solid_data.specs.Obligations.{AllHold, FirstFalse}
use Rattle.solid_data.specs.SolidData.{SolidData}
use Rattle.solid_data.specs.declared.verdict.Failing.{Failing}
use Rattle.brep_walk.specs.Places.{places}
use Rattle.brep_walk.specs.SolidOf.{solid_of}
use Rattle.cert_text.specs.declared.fault.Illegal.{Illegal}
use Rattle.cert_text.specs.declared.TheConstants.{CERT_LIMIT}
use Rattle.orient_certificate.specs.Line.{IsSpelled}
use Rattle.orient_certificate.specs.Outcome.{rule_name}
use Rattle.orient_certificate.specs.declared.fault.OrientFailing.{OrientFailing}
use Rattle.orient_certificate.specs.declared.line.OrientLine.TheVariants.{Ring}
use Rattle.command_replies.specs.declared.answer.Answer.{Answer}
use Rattle.command_replies.specs.declared.answer.Answer.TheVariants as answer
use Rattle.command_replies.specs.Texts.{accepted_line, fail_line, fail_text, illegal_line}
use Rattle.orient_commands.specs.Shells.{IsReady, IsCounted, OfAllShells, IsFirstUnready, IsFirstUncounted}
use Rattle.orient_commands.specs.Text.{AreWhole, IsFirstBad, Names, IsBadHead}

-- the line of a rule that fails of a shell
abbrev pub orient_fail_line : OrientFailing → List ℕ
orient_fail_line x = fail_text (rule_name x.rule) x.entity.0 x.place

-- the bytes spell the line of a ring
abbrev pub IsRingLine : List ℕ → Type 0
IsRingLine bytes = (shell : ℕ) × (numbers : List ℕ) × IsSpelled bytes (Ring shell numbers)

-- some line does
abbrev pub HasRing : List (List ℕ) → Type 0
HasRing [] = ⊥
HasRing (line ∷ lines) = IsRingLine line ⊎ HasRing lines

-- No where some shell has a ring, Done where all have flags
abbrev pub IsAnswerOf : List (List ℕ) → Answer → Type 0
IsAnswerOf lines a = (HasRing lines × (a ≡ answer.No)) ⊎ (¬ HasRing lines × (a ≡ answer.Done))

-- The text is an orientation of the solid, whose number is n, with its answer.
pub record IsOriented (s : SolidData) (n : ℕ) (a : Answer) (text : List ℕ) : Type 0 where
  pub lines : List (List ℕ)
  pub names : Names text n lines
  pub whole : AreWhole s 2 lines
  pub answer : IsAnswerOf lines a

-- what is owed of orienting solid n
pub data OfOrient (n : ℕ) (f : Contents) : Answer → List ℕ → Type 0 where
  -- a place is false: the first that is
  misplaced : (x : Failing) → FirstFalse (places f n) x → OfOrient n f answer.No (fail_line x)
  -- a rule fails of a shell: the first that does
  unready : AllHold (places f n) → (x : OrientFailing) → IsFirstUnready (solid_of f n) x → OfOrient n f answer.No (orient_fail_line x)
  -- none does: an orientation
  oriented : {a : Answer} {text : List ℕ} → AllHold (places f n) → OfAllShells IsReady (solid_of f n) → IsOriented (solid_of f n) n a text → OfOrient n f a text

-- what is owed of orienting a solid, whichever file has it
abbrev pub IsOwedOf : SolidData → Answer → List ℕ → Type 0
IsOwedOf s a text = (f : Contents) (n : ℕ) → s ≡ solid_of f n → AllHold (places f n) → OfOrient n f a text

-- what is owed of lines from line 2 on, after one that names solid n
pub data OfOrientLines (n : ℕ) (lines : List (List ℕ)) (f : Contents) : Answer → List ℕ → Type 0 where
  -- a place is false: the first that is
  place_fails : (x : Failing) → FirstFalse (places f n) x → OfOrientLines n lines f answer.No (fail_line x)
  -- the COUNT of a shell fails: the first that does
  uncounted : AllHold (places f n) → (x : OrientFailing) → IsFirstUncounted (solid_of f n) x → OfOrientLines n lines f answer.No (orient_fail_line x)
  -- a line is bad: the first that is
  line_bad : AllHold (places f n) → OfAllShells IsCounted (solid_of f n) → (bad : Illegal) → IsFirstBad (solid_of f n) 2 lines bad
      → OfOrientLines n lines f answer.No (illegal_line bad)
  -- they are accepted
  lines_accepted : AllHold (places f n) → OfAllShells IsCounted (solid_of f n) → AreWhole (solid_of f n) 2 lines
      → OfOrientLines n lines f answer.Done (accepted_line n)

-- what is owed of verifying the text of an orientation
pub data OfOrientVerify (text : List ℕ) (f : Contents) : Answer → List ℕ → Type 0 where
  -- it is too large
  text_too_large : CERT_LIMIT < length text → OfOrientVerify text f answer.TooLarge []
  -- line 1 is bad
  head_bad : length text ≤ CERT_LIMIT → (bad : Illegal) → IsBadHead text bad → OfOrientVerify text f answer.No (illegal_line bad)
  -- it is good: by the lines after it
  named : {a : Answer} {t : List ℕ} → length text ≤ CERT_LIMIT → (n : ℕ) (lines : List (List ℕ)) → Names text n lines → OfOrientLines n lines f a t
      → OfOrientVerify text f a t
