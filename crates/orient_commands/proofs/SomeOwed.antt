-- Something is owed of orienting, and of verifying.
use Rattle.std.specs.Prelude.{◌≡◌, ◌⊎◌, ℕ, zero, suc, ◌+◌, ◌<◌, ◌≤◌, Bool, true, false, List, [], ◌∷◌, ◌++◌, length, map}
use Rattle.std.specs.List.{AllByRecursion, enumerate_from}
use Rattle.std.proofs.Common.{refl, subst, arith, inl, inr, ⊎_elim}
use Rattle.std.proofs.lemmas.Bool.{cases_order}
use Rattle.iges_params.specs.Contents.{Contents}
use Rattle.solid_data.specs.Numbering.{IsNumberedSolid}
use Rattle.solid_data.specs.Obligations.{AllHold, FirstFalse, FirstNot}
use Rattle.solid_data.specs.Ring.{numbers_from}
use Rattle.solid_data.specs.SolidData.{SolidData}
use Rattle.solid_data.specs.declared.verdict.Failing.{Failing}
use Rattle.solid_data.proofs.Decisions.{Decided, decided_within}
use Rattle.solid_data.proofs.Members.{Has, get_some}
use Rattle.solid_data.proofs.ObligationsDecided.{all_or_first_false}
use Rattle.brep_walk.specs.Places.{places}
use Rattle.brep_walk.specs.SolidOf.{solid_of}
use Rattle.brep_walk.proofs.Decided.{places_decided}
use Rattle.brep_walk.proofs.Few.{has_few_parts}
use Rattle.brep_walk.proofs.Found.{solid_is_numbered}
use Rattle.cert_lines.specs.Line.{cut_lines}
use Rattle.cert_text.specs.declared.fault.Illegal.{Illegal}
use Rattle.cert_text.specs.declared.fault.Illegal.TheVariants.{Misspelt, Unfit, Missing}
use Rattle.cert_text.specs.declared.TheConstants.{CERT_LIMIT}
use Rattle.orient_certificate.specs.Flags.{FlagsFit, rows_at}
use Rattle.orient_certificate.specs.Laws.{ExactlyOne}
use Rattle.cert_text.specs.Text.{IsShort}
use Rattle.orient_certificate.specs.Line.{IsSpelled, spelling}
use Rattle.orient_certificate.specs.OddRing.{OddRing}
use Rattle.orient_certificate.specs.Outcome.{CountFails, ReachFails, IsFirstFailing}
use Rattle.orient_certificate.specs.Partners.{HasTwoRows, IsReached, AllReached}
use Rattle.orient_certificate.specs.declared.fault.OrientFailing.{OrientFailing}
use Rattle.orient_certificate.specs.declared.line.OrientLine.{OrientLine}
use Rattle.orient_certificate.specs.declared.line.OrientLine.TheVariants.{Head, Flags, Ring, End}
use Rattle.orient_certificate.proofs.Answered.{first_not_has, shell_faces}
use Rattle.orient_certificate.proofs.Lawful.{flags_or}
use Rattle.command_replies.specs.declared.answer.Answer.TheVariants as answer
use Rattle.command_replies.specs.Texts.{fail_line, illegal_line, accepted_line}
use Rattle.command_replies.proofs.SomeDue.{longer}
use Rattle.orient_commands.specs.Due.{IsOriented, OfOrient, OfOrientLines, OfOrientVerify, orient_fail_line, misplaced, unready, place_fails, uncounted}
use Rattle.orient_commands.specs.Due.{line_bad, lines_accepted, text_too_large, head_bad, named}
use Rattle.orient_commands.specs.Laws.{IsSome, SomeOrientation, SomeVerifying}
use Rattle.orient_commands.specs.Reading.{IsBegun}
use Rattle.orient_commands.specs.Shells.{IsReady, IsCounted, OfAllShells, FailsInShell}
use Rattle.orient_commands.specs.Text.{FitsAs, Fits, AreWhole, IsWrong, IsFirstBad, Names, IsBadFirst, IsBadHead}
use Rattle.orient_commands.proofs.OrientDecided.{some_line_decided, two_decided, reached_decided, fits_decided}
use Rattle.orient_commands.proofs.ShellSteps.{Below, below_next, flags_spelled, ring_spelled, orient_owed}
use Rattle.orient_commands.proofs.WholeText.{begun_first, begun_ring, begun_flags, no_ring, oriented}

-- all are such, or there is a first that isn't
all_or_not : {A : Type 0} (P : A → Type 0) → ((x : A) → Decided (P x)) → (xs : List A) → AllByRecursion P xs ⊎ ((x : A) × FirstNot P xs x)
all_or_not P each [] = inl tt
all_or_not P each (x ∷ xs) = ⊎_elim (λ p. ⊎_elim (λ all. inl (p, all)) (λ (y, first). inr (y, inr (p, first))) (all_or_not P each xs))
    (λ never. inr (x, inl (never, refl))) (each x)

-- Lines.

wrong_line : (l : ℕ × List ℕ) → (bad : Illegal) × IsWrong l bad
wrong_line (i, bytes) = ⊎_elim (λ (line, is). (Unfit i, inr (line, is, refl))) (λ none. (Misspelt i, inl ((λ line is. none (line, is)), refl)))
    (some_line_decided bytes)

low_line : (s : SolidData) (i : ℕ) (line : OrientLine) → FitsAs s i line → i < length s.shells + 3
low_line s i (Head n) fit = absurd fit
low_line s i (Flags shell flags) fit = let lt = fit.1.within in let at = fit.1.at in omega (arith, lt, at)
low_line s i (Ring shell numbers) fit = let lt = fit.1.within in let at = fit.1.at in omega (arith, lt, at)
low_line s i End fit = omega (arith, fit)

few_lines : (s : SolidData) (i : ℕ) (lines : List (List ℕ)) → i ≤ length s.shells + 3 → AllByRecursion (Fits s) (enumerate_from i lines)
    → i + length lines ≤ length s.shells + 3
few_lines s i [] le all = omega (arith, le)
few_lines s i (l ∷ ls) le ((line, is, fit), all) =
    let lt = low_line s i line fit in
    let rest = few_lines s (i + 1) ls (omega (arith, lt)) all in
    omega (arith, rest)

whole_or_bad : (s : SolidData) (lines : List (List ℕ)) → AreWhole s 2 lines ⊎ ((bad : Illegal) × IsFirstBad s 2 lines bad)
whole_or_bad s lines = by_lines (all_or_not (Fits s) (fits_decided s) (enumerate_from 2 lines))
  where
    by_count : AllByRecursion (Fits s) (enumerate_from 2 lines) → AreWhole s 2 lines ⊎ ((bad : Illegal) × IsFirstBad s 2 lines bad)
    by_count all =
        let most = few_lines s 2 lines (omega arith) all in
        ⊎_elim (λ e. inl (record { each = all; ended = e }))
        (λ other. ⊎_elim (λ lt. inr (Missing (2 + length lines), inr (record { each = all; unended = lt; missing = refl })))
        (λ gt. absurd (omega (arith, most, gt))) other)
        (cases_order (2 + length lines) (length s.shells + 3))

    by_lines : AllByRecursion (Fits s) (enumerate_from 2 lines) ⊎ ((l : ℕ × List ℕ) × FirstNot (Fits s) (enumerate_from 2 lines) l)
        → AreWhole s 2 lines ⊎ ((bad : Illegal) × IsFirstBad s 2 lines bad)
    by_lines (inl all) = by_count all
    by_lines (inr (l, first)) = let bad = wrong_line l in inr (bad.0, inl (record { line = l; is_first = first; wrong = bad.1 }))

head_or_bad : (text : List ℕ) (all : List (List ℕ)) → cut_lines text ≡ all → ((n : ℕ) × (lines : List (List ℕ)) × Names text n lines)
    ⊎ ((bad : Illegal) × IsBadFirst all bad)
head_or_bad text [] cut = inr (Missing 1, refl)
head_or_bad text (head ∷ lines) cut = by_line (some_line_decided head)
  where
    by_kind : (line : OrientLine) → IsSpelled head line → ((n : ℕ) × (rest : List (List ℕ)) × Names text n rest)
        ⊎ ((bad : Illegal) × IsBadFirst (head ∷ lines) bad)
    by_kind (Head n) is = inl (n.0, lines, record { head = head; cut = cut; names = is })
    by_kind (Flags shell flags) is = inr (Unfit 1, inr (Flags shell flags, is, (λ (n, e). cc), refl))
    by_kind (Ring shell numbers) is = inr (Unfit 1, inr (Ring shell numbers, is, (λ (n, e). cc), refl))
    by_kind End is = inr (Unfit 1, inr (End, is, (λ (n, e). cc), refl))

    by_line : Decided ((line : OrientLine) × IsSpelled head line) → ((n : ℕ) × (rest : List (List ℕ)) × Names text n rest)
        ⊎ ((bad : Illegal) × IsBadFirst (head ∷ lines) bad)
    by_line (inl (line, is)) = by_kind line is
    by_line (inr none) = inr (Misspelt 1, inl ((λ line is. none (line, is)), refl))

-- Shells.

count_or_fail : (s : SolidData) (k : ℕ) → k < length s.shells → IsCounted s k ⊎ ((x : OrientFailing) × CountFails s k x)
count_or_fail s k lt = ⊎_elim inl (λ (e, first). inr (_, record { edge = e; first = first; named = refl }))
    (all_or_not (HasTwoRows (rows_at s k)) (two_decided (rows_at s k)) (rows_at s k).edges)

low_number : (base n x : ℕ) → Has (numbers_from base n) x → x < base + n
low_number base zero x h = absurd h
low_number base (suc n) x (inl e) = omega (arith, e)
low_number base (suc n) x (inr h) = let rest = low_number (base + 1) n x h in omega (arith, rest)

reach_or_fail : (s : SolidData) (k : ℕ) → k < length s.shells → AllReached (rows_at s k) ⊎ ((x : OrientFailing) × ReachFails s k x)
reach_or_fail s k lt = ⊎_elim inl (λ (number, first). inr (missed number first))
    (all_or_not (IsReached (rows_at s k)) (reached_decided (rows_at s k)) (numbers_from 0 (rows_at s k).face_count))
  where
    missed : (number : ℕ) → FirstNot (IsReached (rows_at s k)) (numbers_from 0 (rows_at s k).face_count) number → (x : OrientFailing) × ReachFails s k x
    missed number first =
        let shell = get_some s.shells k lt in
        let long = shell_faces s k shell.0 (rows_at s k) refl shell.1 in
        let low = low_number 0 (rows_at s k).face_count number (first_not_has (IsReached (rows_at s k)) (numbers_from 0 (rows_at s k).face_count) number first)
        in
        let face = get_some shell.0.faces number (omega (arith, long, low)) in
        (_, record { shell = shell.0; at = shell.1; number = number; first = first; face = face.0; face_at = face.1; named = refl })

ready_or_fail : (s : SolidData) (k : ℕ) → k < length s.shells → IsReady s k ⊎ ((x : OrientFailing) × IsFirstFailing s k x)
ready_or_fail s k lt = ⊎_elim
    (λ two. ⊎_elim (λ reached. inl (record { counted = two; reached = reached })) (λ (x, fails). inr (x, inr (two, fails))) (reach_or_fail s k lt))
    (λ (x, fails). inr (x, inl fails)) (count_or_fail s k lt)

module _ (Holds : SolidData → ℕ → Type 0) (FailsOf : SolidData → ℕ → OrientFailing → Type 0) (s : SolidData)
    (each : (k : ℕ) → k < length s.shells → Holds s k ⊎ ((x : OrientFailing) × FailsOf s k x)) where
  below_or_fail : (k : ℕ) → k ≤ length s.shells → Below Holds s k ⊎ ((x : OrientFailing) × FailsInShell Holds FailsOf s x)
  below_or_fail zero le = inl (λ j lt. absurd (omega (arith, lt)))
  below_or_fail (suc k) le = ⊎_elim
      (λ below. ⊎_elim (λ holds. inl (below_next Holds s k (suc k) (let next : suc k ≡ k + 1 = omega arith in next) below holds))
      (λ (x, fails). inr (x, record { shell = k; within = omega (arith, le); before = below; fails = fails })) (each k (omega (arith, le))))
      (λ fails. inr fails) (below_or_fail k (omega (arith, le)))

  shells_or_fail : OfAllShells Holds s ⊎ ((x : OrientFailing) × FailsInShell Holds FailsOf s x)
  shells_or_fail = below_or_fail (length s.shells) (omega arith)

-- Verifying.

lines_due : (n : ℕ) (lines : List (List ℕ)) (f : Contents) → IsSome (OfOrientLines n lines f)
lines_due n lines f = by_places (all_or_first_false (places f n) (places_decided f n))
  where
    by_lines : AllHold (places f n) → OfAllShells IsCounted (solid_of f n)
        → AreWhole (solid_of f n) 2 lines ⊎ ((bad : Illegal) × IsFirstBad (solid_of f n) 2 lines bad) → IsSome (OfOrientLines n lines f)
    by_lines all two (inl whole) = (answer.Done, accepted_line n, lines_accepted all two whole)
    by_lines all two (inr (bad, first)) = (answer.No, illegal_line bad, line_bad all two bad first)

    by_shells : AllHold (places f n) → OfAllShells IsCounted (solid_of f n) ⊎ ((x : OrientFailing) × FailsInShell IsCounted CountFails (solid_of f n) x)
        → IsSome (OfOrientLines n lines f)
    by_shells all (inl two) = by_lines all two (whole_or_bad (solid_of f n) lines)
    by_shells all (inr (x, fails)) = (answer.No, orient_fail_line x, uncounted all x fails)

    by_places : AllHold (places f n) ⊎ ((x : Failing) × FirstFalse (places f n) x) → IsSome (OfOrientLines n lines f)
    by_places (inl all) = by_shells all (shells_or_fail IsCounted CountFails (solid_of f n) (count_or_fail (solid_of f n)))
    by_places (inr (x, bad)) = (answer.No, fail_line x, place_fails x bad)

pub verifying_due : SomeVerifying
verifying_due text f = by_limit (decided_within (length text) CERT_LIMIT) (head_or_bad text (cut_lines text) refl)
  where
    by_limit : Decided (length text ≤ CERT_LIMIT) → ((n : ℕ) × (lines : List (List ℕ)) × Names text n lines) ⊎ ((bad : Illegal) × IsBadHead text bad)
        → IsSome (OfOrientVerify text f)
    by_limit (inr more) head = (answer.TooLarge, [], text_too_large (longer (length text) CERT_LIMIT more))
    by_limit (inl few) (inr (bad, wrong)) = (answer.No, illegal_line bad, head_bad few bad wrong)
    by_limit (inl few) (inl (n, lines, names)) = let due = lines_due n lines f in (due.0, due.1, named few n lines names due.2)

-- Orienting.

module _ (s : SolidData) (numbered : IsNumberedSolid s) (ready : OfAllShells IsReady s) where
  abbrev Text : ℕ → Type 0
  Text k = (ringed : Bool) × (text : List ℕ) × IsBegun s s.entity.0 k ringed text

  one_more : (k : ℕ) → k < length s.shells → Text k → ExactlyOne (FlagsFit s k) ⊎ ((rows : List ℕ) × OddRing s k rows) → Text (k + 1)
  one_more k lt (ringed, text, begun) (inl (x, fit, one)) =
      let line : OrientLine = Flags (k + 1) x in
      let spelled = flags_spelled s k x numbered lt fit in (
        ringed,
        text ++ spelling line,
        begun_flags s s.entity.0 k ringed text (text ++ spelling line) line begun spelled refl
            (k, record { within = lt; numbered = refl; at = refl }, fit) (no_ring line spelled (λ shell rows e. cc)),
      )
  one_more k lt (ringed, text, begun) (inr (rows, ring)) =
      let line : OrientLine = Ring (k + 1) (map suc rows) in
      let spelled = ring_spelled s k rows (map suc rows) numbered lt refl ring in
      let short : AllByRecursion IsShort ((k + 1) ∷ map suc rows) = (spelled.0.0, spelled.0.1) in (
        true,
        text ++ spelling line,
        begun_ring s s.entity.0 k ringed text (text ++ spelling line) line begun (short, spelled.1) refl
            (k, record { within = lt; numbered = refl; at = refl }, (rows, refl, ring)) (k + 1, map suc rows, ((short, spelled.1), refl)),
      )

  text_of : (k : ℕ) → k ≤ length s.shells → Text k
  text_of zero le = (false, spelling (Head s.entity), begun_first s s.entity [] (spelling (Head s.entity)) refl numbered.number refl refl)
  text_of (suc k) le =
      let lt : k < length s.shells = omega (arith, le) in
      let here = ready k lt in
      subst Text (let next : k + 1 ≡ suc k = omega arith in next) (one_more k lt (text_of k (omega (arith, le))) (flags_or s k here.counted here.reached))

  some_text : IsSome (IsOriented s s.entity.0)
  some_text = by_ringed (text_of (length s.shells) (omega arith))
    where
      by_ringed : Text (length s.shells) → IsSome (IsOriented s s.entity.0)
      by_ringed (true, text, begun) =
          (answer.No, text ++ spelling End, oriented s s.entity.0 (length s.shells) true text (text ++ spelling End) answer.No begun refl refl refl)
      by_ringed (false, text, begun) =
          (answer.Done, text ++ spelling End, oriented s s.entity.0 (length s.shells) false text (text ++ spelling End) answer.Done begun refl refl refl)

pub orienting_due : SomeOrientation
orienting_due n f limits = by_places (all_or_first_false (places f n) (places_decided f n))
  where
    by_shells : AllHold (places f n) → OfAllShells IsReady (solid_of f n) ⊎ ((x : OrientFailing) × FailsInShell IsReady IsFirstFailing (solid_of f n) x)
        → IsSome (OfOrient n f)
    by_shells all (inl ready) =
        let text = some_text (solid_of f n) (solid_is_numbered f n all (has_few_parts f n limits all)) ready in
        (text.0, text.1, orient_owed f n (solid_of f n) text.0 text.1 refl all ready text.2)
    by_shells all (inr (x, fails)) = (answer.No, orient_fail_line x, unready all x fails)

    by_places : AllHold (places f n) ⊎ ((x : Failing) × FirstFalse (places f n) x) → IsSome (OfOrient n f)
    by_places (inl all) = by_shells all (shells_or_fail IsReady IsFirstFailing (solid_of f n) (ready_or_fail (solid_of f n)))
    by_places (inr (x, bad)) = (answer.No, fail_line x, misplaced x bad)
