-- Where of each obligation it can be told whether it holds, all hold or there is a first false one.
use Rattle.std.specs.Prelude.{List, [], ◌∷◌, ◌++◌, ◌⊎◌, map, ⊤}
use Rattle.std.proofs.Common.{refl, inl, inr}
use Rattle.solid_data.specs.declared.verdict.Failing.{Failing}
use Rattle.solid_data.specs.declared.verdict.Verdict.{Verdict}
use Rattle.solid_data.specs.declared.verdict.Verdict.TheVariants.{Closed, Fails}
use Rattle.solid_data.specs.Obligations.{Obligation, AllHold, FirstFalse, IsVerdict, of_each, after_each}
use Rattle.solid_data.proofs.Decisions.{Decided}

abbrev pub AreDecided : List Obligation → Type 0
AreDecided [] = ⊤
AreDecided (o ∷ os) = Decided o.holds × AreDecided os

pub decided-append : (os ps : List Obligation) → AreDecided os → AreDecided ps → AreDecided (os ++ ps)
decided-append [] ps a b = b
decided-append (o ∷ os) ps a b = (a.0, decided-append os ps a.1 b)

pub decided-map : {A : Type 0} (g : A → Obligation) → ((x : A) → Decided ((g x).holds)) → (xs : List A) → AreDecided (map g xs)
decided-map g each [] = tt
decided-map g each (x ∷ xs) = (each x, decided-map g each xs)

pub decided-of_each : {A : Type 0} (f : A → List Obligation) → ((x : A) → AreDecided (f x)) → (xs : List A) → AreDecided (of_each f xs)
decided-of_each f each [] = tt
decided-of_each f each (x ∷ xs) = decided-append (f x) (of_each f xs) (each x) (decided-of_each f each xs)

pub decided-after_each : {A : Type 0} (f : List A → A → List Obligation) → ((before : List A) (x : A) → AreDecided (f before x)) → (before xs : List A) →
    AreDecided (after_each f before xs)
decided-after_each f each before [] = tt
decided-after_each f each before (x ∷ xs) = decided-append (f before x) (after_each f (before ++ x ∷ []) xs) (each before x)
    (decided-after_each f each (before ++ x ∷ []) xs)

pub all_or_first_false : (os : List Obligation) → AreDecided os → AllHold os ⊎ ((x : Failing) × FirstFalse os x)
all_or_first_false [] d = inl tt
all_or_first_false (o ∷ os) d = by_first d.0 (all_or_first_false os d.1)
  where
    by_first : Decided o.holds → AllHold os ⊎ ((x : Failing) × FirstFalse os x) → AllHold (o ∷ os) ⊎ ((x : Failing) × FirstFalse (o ∷ os) x)
    by_first (inr never) rest = inr (o.failing, inl (never, refl))
    by_first (inl holds) (inl all) = inl (holds, all)
    by_first (inl holds) (inr (x, false_one)) = inr (x, inr (holds, false_one))

pub some_verdict : (os : List Obligation) → AreDecided os → (verdict : Verdict) × IsVerdict os verdict
some_verdict os d = of_answer (all_or_first_false os d)
  where
    of_answer : AllHold os ⊎ ((x : Failing) × FirstFalse os x) → (verdict : Verdict) × IsVerdict os verdict
    of_answer (inl all) = (Closed, all)
    of_answer (inr (x, false_one)) = (Fails x, false_one)
