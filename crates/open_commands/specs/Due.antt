-- What is owed of certifying an open shell, and of verifying such a certificate: an answer and a text.
use Rattle.std.specs.Prelude.{ℕ, ◌<◌, ◌≤◌, List, [], length}
use Rattle.iges_params.specs.Contents.{Contents}
use Rattle.brep_walk.specs.OpenPlaces.{shell_solid_of}
use Rattle.cert_text.specs.declared.fault.Illegal.{Illegal}
use Rattle.command_replies.specs.Texts.{accepted_line, fail_line, fail_text, illegal_line}
use Rattle.command_replies.specs.declared.answer.Answer.{Answer}
use Rattle.command_replies.specs.declared.answer.Answer.TheVariants.{Done, No, TooLarge}
use Rattle.open_certificate.specs.Legal.{IsOpenLegal, IsOpenFirstBad}
use Rattle.open_certificate.specs.Obligations.{rule_name}
use Rattle.open_certificate.specs.declared.verdict.OpenFailing.{OpenFailing}
use Rattle.solid_data.specs.Obligations.{AllHold, FirstFalse}
use Rattle.solid_data.specs.declared.verdict.Failing.{Failing}
use Rattle.cert_text.specs.declared.TheConstants.{CERT_LIMIT}
use Rattle.open_commands.specs.Verdict.{IsOpenAcceptedFor}
use Rattle.open_commands.specs.Verdict.{open_checked}
use Rattle.open_commands.specs.Opening.{OpensShell, IsBadOpening}
use Rattle.open_commands.specs.Verdict.{IsOpenVerdict, sound, misplaced, unsound}

abbrev pub open_fail_line : OpenFailing → List ℕ
open_fail_line x = fail_text (rule_name x.rule) x.entity.0 x.place

-- what is owed of certifying shell n
pub data OfOpen (n : ℕ) (f : Contents) : Answer → List ℕ → Type 0 where
  -- a place is false: what its verdict names
  open_misplaced : (x : Failing) → IsOpenVerdict f n (misplaced x) → OfOpen n f No (fail_line x)
  -- a rule of open shells fails: what its verdict names
  open_unsound : (x : OpenFailing) → IsOpenVerdict f n (unsound x) → OfOpen n f No (open_fail_line x)
  -- it is sound: the text of some certificate that is accepted and names it
  open_certified : (text : List ℕ) → IsOpenVerdict f n sound → IsOpenAcceptedFor f text n → OfOpen n f Done text

-- what is owed of a certificate that names shell n and has these lines from line 2 on
pub data OfShellLines (n : ℕ) (lines : List (List ℕ)) (f : Contents) : Answer → List ℕ → Type 0 where
  -- something that is checked is false: the first that is
  place_fails : (x : Failing) → FirstFalse (open_checked f n) x → OfShellLines n lines f No (fail_line x)
  -- a line is bad: the first that is
  line_bad : AllHold (open_checked f n) → (bad : Illegal) → IsOpenFirstBad (shell_solid_of f n) lines bad → OfShellLines n lines f No (illegal_line bad)
  -- it is accepted
  lines_accepted : AllHold (open_checked f n) → IsOpenLegal (shell_solid_of f n) lines → OfShellLines n lines f Done (accepted_line n)

-- what is owed of verifying a certificate
pub data OfOpenVerify (certificate : List ℕ) (f : Contents) : Answer → List ℕ → Type 0 where
  -- it is too large
  certificate_too_large : CERT_LIMIT < length certificate → OfOpenVerify certificate f TooLarge []
  -- line 1 or 2 is bad by itself
  opening_bad : length certificate ≤ CERT_LIMIT → (bad : Illegal) → IsBadOpening certificate bad → OfOpenVerify certificate f No (illegal_line bad)
  -- both are good: by the shell that it names and its lines
  opened : {a : Answer} {text : List ℕ} → length certificate ≤ CERT_LIMIT → (n : ℕ) (lines : List (List ℕ)) → OpensShell certificate n lines
      → OfShellLines n lines f a text → OfOpenVerify certificate f a text
