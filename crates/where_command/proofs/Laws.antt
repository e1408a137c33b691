-- What the definitions say of answers.
use Rattle.std.specs.Prelude.{◌⊎◌, List, [], ◌∷◌, All, MatchOption, Option, Some, None, slice_get}
use Rattle.std.proofs.Common.{◌≡◌, inl, inr, ℕ, refl}
use Rattle.std.proofs.lemmas.Option.{none-some}
use Rattle.iges_params.specs.Contents.{Contents}
use Rattle.brep_walk.specs.Places.{places}
use Rattle.brep_walk.specs.SolidOf.{solid_of}
use Rattle.solid_data.specs.Obligations.{AllHold}
use Rattle.solid_data.specs.declared.verdict.Verdict.{Verdict}
use Rattle.solid_data.specs.declared.verdict.Verdict.TheVariants.{Closed, Fails}
use Rattle.solid_data.proofs.ObligationLemmas.{AllHold-append, AllHold-append_left, AllHold-append_right, FirstFalse-not_all}
use Rattle.solid_verdict.specs.Closed.{IsClosed, IsVerdictOn, obligations}
use Rattle.shell_rules.specs.ShellObligations.{solid_obligations}
use Rattle.shell_rules.proofs.ClosedLemmas.{closed_is_all_hold}
use Rattle.command_replies.specs.declared.answer.Answer.{Answer}
use Rattle.command_replies.specs.declared.answer.Answer.TheVariants.{Done, No, Usage}
use Rattle.command_replies.specs.Due.{Exactly}
use Rattle.where_places.specs.declared.placed_file.PlacedFile.{PlacedFile}
use Rattle.where_places.specs.PlacedFiles.{IsPlacedFile}
use Rattle.where_text.specs.declared.listing.Listing.{Listing}
use Rattle.solid_hints.specs.ShellHints.{IsRemedy, ShellRemedies}
use Rattle.where_solids.specs.Told.{IsOfRecords, IsOfShells, IsToldOf}
use Rattle.where_command.specs.declared.asked.Asked.{Asked}
use Rattle.where_command.specs.declared.asked.Asked.TheVariants as asked
use Rattle.where_command.specs.Asked.{asked_of, usage_line}
use Rattle.where_command.specs.Due.{DueOf, answer_to}
use Rattle.where_command.specs.Laws.{ClosedIsTold, ToldRemediesPass}

all_closed : (f : Contents) (n : ℕ) → IsVerdictOn f n Closed → IsClosed f n
unfolding obligations
all_closed f n all = record {
  placed = AllHold-append_left (places f n) (solid_obligations (solid_of f n)) all;
  closed = (closed_is_all_hold (solid_of f n)).1 (AllHold-append_right (places f n) (solid_obligations (solid_of f n)) all);
}

closed_all : (f : Contents) (n : ℕ) → IsClosed f n → AllHold (obligations f n)
unfolding obligations
closed_all f n closed = AllHold-append (places f n) (solid_obligations (solid_of f n)) closed.placed ((closed_is_all_hold (solid_of f n)).0 closed.closed)

told_closed : (f : Contents) (n : ℕ) (v : Verdict) (a : Answer) → IsVerdictOn f n v → a ≡ answer_to v
    → ((a ≡ Done) × IsClosed f n) ⊎ ((a ≡ No) × ¬ IsClosed f n)
told_closed f n Closed a judged is = inl (is, all_closed f n judged)
told_closed f n (Fails x) a judged is = inr (is, λ closed. FirstFalse-not_all (obligations f n) x judged (closed_all f n closed))

pub closed_is_told : ClosedIsTold
closed_is_told n listing p remedies a t owed = told_closed p.file n owed.0 a owed.1.judged owed.2

-- ---- remedies

none_there : {A : Type 0} (xs : List A) (i : ℕ) (x : A) → xs ≡ [] → slice_get xs i ≡ Some x → ⊥
none_there [] i x none at = none-some x at
none_there (y ∷ ys) i x none at = absurd cc

-- those that are told of a solid
told_of_solid : (n : ℕ) (listing : Listing) (p : PlacedFile) (remedies : List ShellRemedies) (v : Verdict) (t : List ℕ)
    → IsToldOf listing p (record { 0 = n }) remedies v t → (i : ℕ) (x : ShellRemedies) → slice_get remedies i ≡ Some x
    → All (IsRemedy p.file (solid_of p.file n) x.0) x.1
told_of_solid n listing p remedies v t told i x at = by_told told.told
  where
    by_hint : IsOfShells listing p (record { 0 = n }) remedies told.rest → All (IsRemedy p.file (solid_of p.file n) x.0) x.1
    by_hint shells = elim shells.is_hint [
      | inl flags ↦ absurd (none_there remedies i x flags.1 at)
      | inr told ↦ told.1.each i x at
    ]

    by_told : IsOfRecords p (record { 0 = n }) remedies told.rest ⊎ IsOfShells listing p (record { 0 = n }) remedies told.rest
        → All (IsRemedy p.file (solid_of p.file n) x.0) x.1
    by_told (inl records) = absurd (none_there remedies i x records.none at)
    by_told (inr shells) = by_hint shells

pub remedies_pass : ToldRemediesPass
remedies_pass words bytes remedies a t due i x at = by_asked (asked_of words) refl due
  where
    by_file : (q : Asked) → asked_of words ≡ Some q → DueOf q bytes remedies a t → (n : ℕ) × (listing : Listing) × (p : PlacedFile)
        × (asked_of words ≡ Some (asked.Solid n listing)) × IsPlacedFile bytes p × All (IsRemedy p.file (solid_of p.file n) x.0) x.1
    by_file q is (inl none) = absurd (none_there remedies i x none.0 at)
    by_file asked.Overview is (inr (few, p, placed, owed)) = absurd (none_there remedies i x owed.0 at)
    by_file (asked.Solid n listing) is (inr (few, p, placed, owed)) =
        (n, listing, p, is, placed, told_of_solid n listing p remedies owed.0 t owed.1 i x at)

    by_asked : (o : Option Asked) → asked_of words ≡ o → MatchOption o ((remedies ≡ []) × Exactly Usage usage_line a t) (λ q. DueOf q bytes remedies a t)
        → (n : ℕ) × (listing : Listing) × (p : PlacedFile)
        × (asked_of words ≡ Some (asked.Solid n listing)) × IsPlacedFile bytes p × All (IsRemedy p.file (solid_of p.file n) x.0) x.1
    by_asked None is none = absurd (none_there remedies i x none.0 at)
    by_asked (Some q) is due = by_file q is due
