-- An open shell has one verdict, and one answer is owed of it and of a certificate.
use Rattle.std.specs.Prelude.{◌≡◌, ℕ, List}
use Rattle.std.proofs.Common.{refl, ap, subst, arith}
use Rattle.iges_params.specs.Contents.{Contents}
use Rattle.brep_walk.specs.OpenPlaces.{open_places, shell_solid_of}
use Rattle.command_replies.specs.declared.answer.Answer.TheVariants.{Done, No}
use Rattle.command_replies.specs.Texts.{fail_line, illegal_line}
use Rattle.command_replies.proofs.One.{IsOne}
use Rattle.open_certificate.specs.Obligations.{open_obligations}
use Rattle.open_certificate.proofs.Legality.{legal_has_no_bad, one_first_bad, no_first_false, one_first_false_of}
use Rattle.solid_data.proofs.ObligationLemmas.{FirstFalse-one, FirstFalse-not_all}
use Rattle.open_commands.specs.Verdict.{open_checked}
use Rattle.open_commands.specs.Due.{OfShellLines, open_fail_line, open_misplaced, open_unsound, open_certified, place_fails, line_bad, lines_accepted}
use Rattle.open_commands.specs.Due.{certificate_too_large, opening_bad, opened}
use Rattle.open_commands.specs.Laws.{OneOpenAnswer, OneVerifyAnswer}
use Rattle.open_commands.specs.Verdict.{OpenVerdict, IsOpenVerdict, sound, misplaced, unsound}
use Rattle.open_commands.proofs.OpenedLines.{one_bad_opening, opens_or_bad, one_opening}

pub verdict_one : (f : Contents) (n : ℕ) (a b : OpenVerdict) → IsOpenVerdict f n a → IsOpenVerdict f n b → a ≡ b
verdict_one f n sound sound p q = refl
verdict_one f n sound (misplaced y) p q = absurd (FirstFalse-not_all (open_places f n) y q p.0)
verdict_one f n sound (unsound y) p q = absurd (no_first_false (open_obligations (shell_solid_of f n)) y p.1 q.1)
verdict_one f n (misplaced x) sound p q = absurd (FirstFalse-not_all (open_places f n) x p q.0)
verdict_one f n (misplaced x) (misplaced y) p q = ap misplaced (FirstFalse-one (open_places f n) x y p q)
verdict_one f n (misplaced x) (unsound y) p q = absurd (FirstFalse-not_all (open_places f n) x p q.0)
verdict_one f n (unsound x) sound p q = absurd (no_first_false (open_obligations (shell_solid_of f n)) x q.1 p.1)
verdict_one f n (unsound x) (misplaced y) p q = absurd (FirstFalse-not_all (open_places f n) y q p.0)
verdict_one f n (unsound x) (unsound y) p q = ap unsound (one_first_false_of (open_obligations (shell_solid_of f n)) x y p.1 q.1)

different : {P : Type 0} (f : Contents) (n : ℕ) (a b : OpenVerdict) → IsOpenVerdict f n a → IsOpenVerdict f n b → (a ≡ b → ⊥) → P
different f n a b p q never = absurd (never (verdict_one f n a b p q))

pub one_open : OneOpenAnswer
one_open n f a b t u (open_misplaced x p) (open_misplaced y q) = (refl, λ no_answer. ap fail_line (FirstFalse-one (open_places f n) x y p q))
one_open n f a b t u (open_misplaced x p) (open_unsound y q) = different f n (misplaced x) (unsound y) p q (λ e. cc)
one_open n f a b t u (open_misplaced x p) (open_certified other q made) = different f n (misplaced x) sound p q (λ e. cc)
one_open n f a b t u (open_unsound x p) (open_misplaced y q) = different f n (unsound x) (misplaced y) p q (λ e. cc)
one_open n f a b t u (open_unsound x p) (open_unsound y q) =
    (refl, λ no_answer. ap open_fail_line (one_first_false_of (open_obligations (shell_solid_of f n)) x y p.1 q.1))
one_open n f a b t u (open_unsound x p) (open_certified other q made) = different f n (unsound x) sound p q (λ e. cc)
one_open n f a b t u (open_certified text p made) (open_misplaced y q) = different f n sound (misplaced y) p q (λ e. cc)
one_open n f a b t u (open_certified text p made) (open_unsound y q) = different f n sound (unsound y) p q (λ e. cc)
one_open n f a b t u (open_certified text p made) (open_certified other q also) = (refl, λ no_answer. absurd (let e : Done ≡ No = no_answer in cc))

lines_one : (n : ℕ) (lines : List (List ℕ)) (f : Contents) → IsOne (OfShellLines n lines f)
lines_one n lines f a b t u (place_fails x p) (place_fails y q) = (refl, ap fail_line (FirstFalse-one (open_checked f n) x y p q))
lines_one n lines f a b t u (place_fails x p) (line_bad all bad q) = absurd (FirstFalse-not_all (open_checked f n) x p all)
lines_one n lines f a b t u (place_fails x p) (lines_accepted all legal) = absurd (FirstFalse-not_all (open_checked f n) x p all)
lines_one n lines f a b t u (line_bad all bad p) (place_fails y q) = absurd (FirstFalse-not_all (open_checked f n) y q all)
lines_one n lines f a b t u (line_bad all bad p) (line_bad every worse q) = (refl, ap illegal_line (one_first_bad (shell_solid_of f n) lines bad worse p q))
lines_one n lines f a b t u (line_bad all bad p) (lines_accepted every legal) = absurd (legal_has_no_bad (shell_solid_of f n) lines bad legal p)
lines_one n lines f a b t u (lines_accepted all legal) (place_fails y q) = absurd (FirstFalse-not_all (open_checked f n) y q all)
lines_one n lines f a b t u (lines_accepted all legal) (line_bad every bad q) = absurd (legal_has_no_bad (shell_solid_of f n) lines bad legal q)
lines_one n lines f a b t u (lines_accepted all legal) (lines_accepted every also) = (refl, refl)

pub one_verify : OneVerifyAnswer
one_verify c f a b t u (certificate_too_large p) (certificate_too_large q) = (refl, refl)
one_verify c f a b t u (certificate_too_large p) (opening_bad few bad q) = absurd (omega (arith, p, few))
one_verify c f a b t u (certificate_too_large p) (opened few m lines opens q) = absurd (omega (arith, p, few))
one_verify c f a b t u (opening_bad few bad p) (certificate_too_large q) = absurd (omega (arith, few, q))
one_verify c f a b t u (opening_bad few bad p) (opening_bad also worse q) = (refl, ap illegal_line (one_bad_opening c bad worse p q))
one_verify c f a b t u (opening_bad few bad p) (opened also m lines opens q) = absurd (opens_or_bad c m lines bad opens p)
one_verify c f a b t u (opened few n lines opens p) (certificate_too_large q) = absurd (omega (arith, few, q))
one_verify c f a b t u (opened few n lines opens p) (opening_bad also bad q) = absurd (opens_or_bad c n lines bad opens q)
one_verify c f a b t u (opened few n lines opens p) (opened also m other opens_q q) =
    let same = one_opening c n m lines other opens opens_q in
    lines_one m other f a b t u (subst (λ k. OfShellLines k other f a t) same.0 (subst (λ ls. OfShellLines n ls f a t) same.1 p)) q
