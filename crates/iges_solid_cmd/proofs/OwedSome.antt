-- Of each command some answer is owed.
use Rattle.std.proofs.Common.{◌≡◌, ◌<◌, ◌⊎◌, length, inl, inr, ℕ, List, [], ap, arith, ◌≤◌, ◌∷◌, refl}
use Rattle.std.specs.Prelude.{◌+◌, ◌<◌}
use Rattle.iges_params.specs.Contents.{Contents}
use Rattle.brep_walk.specs.Places.{places}
use Rattle.iges_params.specs.Solids.{solids_of}
use Rattle.cert_maker.specs.Book.{FirstUnmade, AllMade, IsUnmade, uses_of}
use Rattle.cert_maker.specs.declared.book.BookFault.{BookFault}
use Rattle.cert_maker.proofs.Unmade.{made_or_unmade}
use Rattle.solid_verdict.specs.Closed.{obligations, IsVerdictOn}
use Rattle.command_replies.specs.Texts.{fail_line, solid_fail_text, no_solid_line}
use Rattle.iges_solid_cmd.specs.Texts.{show_text}
use Rattle.iges_solid_cmd.specs.Due.{OfShow, unplaced, shown, OfCertify, fails, certified, OfCertifyAll, no_solid, one_fails, too_many, all_certified}
use Rattle.iges_base.specs.declared.TheConstants.{FILE_LIMIT}
use Rattle.iges_params.specs.IsFile.{IsFile}
use Rattle.solid_data.specs.declared.verdict.Failing.{Failing}
use Rattle.solid_data.specs.declared.verdict.Verdict.{Verdict}
use Rattle.solid_data.specs.declared.verdict.Verdict.TheVariants.{Closed, Fails}
use Rattle.solid_data.specs.Obligations.{AllHold, FirstFalse}
use Rattle.solid_data.proofs.ObligationsDecided.{all_or_first_false, some_verdict}
use Rattle.brep_walk.specs.SolidOf.{solid_of}
use Rattle.brep_walk.proofs.Decided.{places_decided}
use Rattle.solid_verdict.proofs.Closed.{closed_is_all_hold_of_file}
use Rattle.cert_maker.proofs.SomeBook.{some_book}
use Rattle.cert_maker.proofs.SomeText.{some_text}
use Rattle.solid_verdict.proofs.Closed.{obligations_decided}
use Rattle.iges_write.proofs.Made.{can_be_made}
use Rattle.command_replies.proofs.SomeDue.{IsSome}
use Rattle.cert_maker.specs.declared.book.BookFault.TheVariants as maker
use Rattle.command_replies.specs.declared.answer.Answer.TheVariants as answer

pub show_due : (n : ℕ) (f : Contents) → IsSome (OfShow n f)
show_due n f = by_places (all_or_first_false (places f n) (places_decided f n))
  where
    by_places : AllHold (places f n) ⊎ ((x : Failing) × FirstFalse (places f n) x) → IsSome (OfShow n f)
    by_places (inl all) = (answer.Done, show_text (solid_of f n), shown all)
    by_places (inr (x, bad)) = (answer.No, fail_line x, unplaced x bad)

pub certify_due : (n : ℕ) (f : Contents) (bytes : List ℕ) → length bytes ≤ FILE_LIMIT → IsFile bytes f → IsSome (OfCertify n f)
certify_due n f bytes few is = by_verdict (some_verdict (obligations f n) (obligations_decided f n))
  where
    by_verdict : (verdict : Verdict) × IsVerdictOn f n verdict → IsSome (OfCertify n f)
    by_verdict (Fails x, bad) = (answer.No, fail_line x, fails x bad)
    by_verdict (Closed, all) =
        let made = some_text f n (can_be_made bytes f few is).made.limits ((closed_is_all_hold_of_file f n).1 all) in
        (answer.Done, made.0, certified made.0 all made.1)

-- certifying all solids
never_so : (f : Contents) (used : ℕ) (ns : List ℕ) (fault : BookFault) → ((used n : ℕ) → IsUnmade f used n fault → ⊥) → FirstUnmade f used ns fault → ⊥
never_so f used [] fault never first = first
never_so f used (n ∷ ns) fault never (inl h) = never used n h
never_so f used (n ∷ ns) fault never (inr (made, h)) = never_so f (used + uses_of f n) ns fault never h

pub all_due : (f : Contents) (bytes : List ℕ) → length bytes ≤ FILE_LIMIT → IsFile bytes f → IsSome (OfCertifyAll f)
all_due f bytes few is = by_solids (solids_of f) refl (made_or_unmade f 0 (solids_of f))
  where
    by_fault : (fault : BookFault) → FirstUnmade f 0 (solids_of f) fault → IsSome (OfCertifyAll f)
    by_fault maker.NoSolid first = absurd (never_so f 0 (solids_of f) maker.NoSolid (λ used n h. h) first)
    by_fault (maker.Fails n x) first = (answer.No, solid_fail_text n.0 x, one_fails n x first)
    by_fault (maker.TooMany n) first = (answer.TooLarge, [], too_many n first)
    by_fault maker.NoMemory first = absurd (never_so f 0 (solids_of f) maker.NoMemory (λ used n h. h) first)

    by_solids : (ns : List ℕ) → solids_of f ≡ ns → AllMade f 0 (solids_of f) ⊎ ((fault : BookFault) × FirstUnmade f 0 (solids_of f) fault)
        → IsSome (OfCertifyAll f)
    by_solids [] none found = (answer.No, no_solid_line, no_solid none)
    by_solids (n ∷ ns) some (inl made) =
        let text = some_book some_text f (can_be_made bytes f few is).made.limits made in
        let long = ap (λ (xs : List ℕ). length xs) some in
        let above : 0 < length (solids_of f) = omega (arith, long) in
        (answer.Done, text.0, all_certified text.0 above made text.1)
    by_solids (n ∷ ns) some (inr (fault, first)) = by_fault fault first
