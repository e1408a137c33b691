-- An open shell has some verdict, and some answer is owed of it and of a certificate.
use Rattle.std.specs.Prelude.{◌⊎◌, ◌≤◌, ℕ, List, [], length}
use Rattle.std.proofs.Common.{inl, inr}
use Rattle.iges_params.specs.Contents.{Contents}
use Rattle.brep_walk.specs.OpenPlaces.{open_places, shell_solid_of}
use Rattle.brep_walk.proofs.Decided.{open_places_decided}
use Rattle.cert_text.specs.declared.fault.Illegal.{Illegal}
use Rattle.command_replies.specs.declared.answer.Answer.TheVariants.{Done, No, TooLarge}
use Rattle.command_replies.specs.Texts.{accepted_line, fail_line, illegal_line}
use Rattle.command_replies.proofs.SomeDue.{IsSome, longer}
use Rattle.open_certificate.specs.Legal.{IsOpenLegal, IsOpenFirstBad}
use Rattle.open_certificate.specs.Obligations.{open_obligations, AllHold as AllRulesHold, FirstFalse as FirstRuleFalse}
use Rattle.open_certificate.specs.declared.verdict.OpenFailing.{OpenFailing}
use Rattle.open_certificate.proofs.LinesDecided.{legal_or_first_bad}
use Rattle.open_certificate.proofs.RulesDecided as rules
use Rattle.solid_data.specs.Obligations.{AllHold, FirstFalse}
use Rattle.solid_data.specs.declared.verdict.Failing.{Failing}
use Rattle.solid_data.proofs.Decisions.{Decided, decided_within}
use Rattle.solid_data.proofs.ObligationsDecided.{all_or_first_false}
use Rattle.cert_text.specs.declared.TheConstants.{CERT_LIMIT}
use Rattle.open_commands.specs.Verdict.{open_checked}
use Rattle.open_commands.specs.Due.{OfOpen, OfShellLines, OfOpenVerify, open_fail_line, open_misplaced, open_unsound, open_certified, place_fails, line_bad}
use Rattle.open_commands.specs.Due.{lines_accepted, certificate_too_large, opening_bad, opened}
use Rattle.open_commands.specs.Laws.{SomeOpenAnswer, SomeVerifyAnswer}
use Rattle.open_commands.specs.Opening.{OpensShell, IsBadOpening}
use Rattle.open_commands.specs.Verdict.{OpenVerdict, IsOpenVerdict, sound, misplaced, unsound}
use Rattle.open_commands.proofs.AcceptedFor.{sound_exactly}
use Rattle.open_commands.proofs.Joining.{checks_decided}
use Rattle.open_commands.proofs.OpenedLines.{openings_are_decided}

pub some_verdict : (f : Contents) (n : ℕ) → (verdict : OpenVerdict) × IsOpenVerdict f n verdict
some_verdict f n = by_places (all_or_first_false (open_places f n) (open_places_decided f n)) (rules.all_or_first_false (shell_solid_of f n))
  where
    by_places : AllHold (open_places f n) ⊎ ((x : Failing) × FirstFalse (open_places f n) x) → AllRulesHold (open_obligations (shell_solid_of f n))
        ⊎ ((x : OpenFailing) × FirstRuleFalse (open_obligations (shell_solid_of f n)) x)
        → (verdict : OpenVerdict) × IsOpenVerdict f n verdict
    by_places (inr (x, first)) any = (misplaced x, first)
    by_places (inl placed) (inr (x, first)) = (unsound x, (placed, first))
    by_places (inl placed) (inl all) = (sound, (placed, all))

pub some_open : SomeOpenAnswer
some_open n f limits = by_verdict (some_verdict f n)
  where
    by_verdict : (verdict : OpenVerdict) × IsOpenVerdict f n verdict → IsSome (OfOpen n f)
    by_verdict (misplaced x, first) = (No, fail_line x, open_misplaced x first)
    by_verdict (unsound x, first) = (No, open_fail_line x, open_unsound x first)
    by_verdict (sound, all) = let c = (sound_exactly f n limits).0 all in (Done, c.0, open_certified c.0 all c.1)

lines_due : (n : ℕ) (lines : List (List ℕ)) (f : Contents) → IsSome (OfShellLines n lines f)
lines_due n lines f = by_checks (all_or_first_false (open_checked f n) (checks_decided f n)) (legal_or_first_bad (shell_solid_of f n) lines)
  where
    by_checks : AllHold (open_checked f n) ⊎ ((x : Failing) × FirstFalse (open_checked f n) x)
        → IsOpenLegal (shell_solid_of f n) lines ⊎ ((bad : Illegal) × IsOpenFirstBad (shell_solid_of f n) lines bad) → IsSome (OfShellLines n lines f)
    by_checks (inr (x, first)) any = (No, fail_line x, place_fails x first)
    by_checks (inl all) (inr (bad, first)) = (No, illegal_line bad, line_bad all bad first)
    by_checks (inl all) (inl legal) = (Done, accepted_line n, lines_accepted all legal)

pub some_verify : SomeVerifyAnswer
some_verify certificate f = by_limit (decided_within (length certificate) CERT_LIMIT) (openings_are_decided certificate)
  where
    by_limit : Decided (length certificate ≤ CERT_LIMIT) → ((n : ℕ) × (lines : List (List ℕ)) × OpensShell certificate n lines)
        ⊎ ((bad : Illegal) × IsBadOpening certificate bad) → IsSome (OfOpenVerify certificate f)
    by_limit (inr more) any = (TooLarge, [], certificate_too_large (longer (length certificate) CERT_LIMIT more))
    by_limit (inl few) (inr (bad, wrong)) = (No, illegal_line bad, opening_bad few bad wrong)
    by_limit (inl few) (inl (n, lines, opens)) = let due = lines_due n lines f in (due.0, due.1, opened few n lines opens due.2)
