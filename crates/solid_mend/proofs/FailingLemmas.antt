-- Shells that fail, one by one.
use Rattle.std.specs.Prelude.{◌≡◌, ℕ, ◌+◌, List, [], ◌∷◌, ◌++◌, ◌≤◌, length, take, Some, slice_get}
use Rattle.std.specs.List.{enumerate_from}
use Rattle.std.proofs.Common.{refl, sym, ◌∙◌, ap, subst, arith, inl, inr}
use Rattle.std.proofs.lemmas.List.{take_all}
use Rattle.std.proofs.lemmas.List.FromFn.{length-enumerate_from}
use Rattle.solid_data.specs.SolidData.{SolidData}
use Rattle.solid_data.specs.declared.solid.Shell.{Shell}
use Rattle.iges_params.proofs.Copies.{one_more}
use Rattle.solid_mend.specs.Failing.{Keeps, AreOfFailing, OneEach, SoFar}
use Rattle.changed_file.proofs.EntrySteps.{get_enumerated}

pub one_keeps : {X : Type 0} (at : X → ℕ) (s : SolidData) (hs : List (ℕ × Shell)) (h : ℕ × Shell) (xs : List X) → AreOfFailing at s hs xs → Keeps s h
    → AreOfFailing at s (hs ++ h ∷ []) xs
one_keeps at s [] h [] are keeps = (keeps, refl)
one_keeps at s [] h (x ∷ xs) are keeps = absurd cc
one_keeps at s (g ∷ hs) h [] are keeps = (are.0, one_keeps at s hs h [] are.1 keeps)
one_keeps at s (g ∷ hs) h (x ∷ xs) (inl (k, are)) keeps = inl (k, one_keeps at s hs h (x ∷ xs) are keeps)
one_keeps at s (g ∷ hs) h (x ∷ xs) (inr (f, e, are)) keeps = inr (f, e, one_keeps at s hs h xs are keeps)

pub one_fails : {X : Type 0} (at : X → ℕ) (s : SolidData) (hs : List (ℕ × Shell)) (h : ℕ × Shell) (xs : List X) (y : X) → AreOfFailing at s hs xs
    → ¬ Keeps s h → at y ≡ h.0 → AreOfFailing at s (hs ++ h ∷ []) (xs ++ y ∷ [])
one_fails at s [] h [] y are fails e = inr (fails, e, refl)
one_fails at s [] h (x ∷ xs) y are fails e = absurd cc
one_fails at s (g ∷ hs) h [] y are fails e = inl (are.0, one_fails at s hs h [] y are.1 fails e)
one_fails at s (g ∷ hs) h (x ∷ xs) y (inl (k, are)) fails e = inl (k, one_fails at s hs h (x ∷ xs) y are fails e)
one_fails at s (g ∷ hs) h (x ∷ xs) y (inr (f, n, are)) fails e = inr (f, n, one_fails at s hs h xs y are fails e)

next_front : (s : SolidData) (k : ℕ) (h : Shell) → slice_get s.shells k ≡ Some h
    → take (k + 1) (enumerate_from 0 s.shells) ≡ take k (enumerate_from 0 s.shells) ++ (k, h) ∷ []
next_front s k h at =
    let none : 0 + k ≡ k = omega arith in
    one_more (enumerate_from 0 s.shells) k (k, h) (get_enumerated 0 s.shells k h at ∙ ap (λ j. Some (j, h)) none)

pub next_keeps : {X : Type 0} (at : X → ℕ) (s : SolidData) (k : ℕ) (h : Shell) (xs : List X) → slice_get s.shells k ≡ Some h → Keeps s (k, h)
    → SoFar at s k xs → SoFar at s (k + 1) xs
next_keeps at s k h xs there keeps are =
    subst (λ hs. AreOfFailing at s hs xs) (sym (next_front s k h there)) (one_keeps at s (take k (enumerate_from 0 s.shells)) (k, h) xs are keeps)

pub next_fails : {X : Type 0} (at : X → ℕ) (s : SolidData) (k : ℕ) (h : Shell) (xs new : List X) (y : X) → slice_get s.shells k ≡ Some h
    → ¬ Keeps s (k, h) → at y ≡ k → new ≡ xs ++ y ∷ [] → SoFar at s k xs → SoFar at s (k + 1) new
next_fails at s k h xs new y there fails e en are =
    subst (λ hs. AreOfFailing at s hs new) (sym (next_front s k h there))
    (subst (AreOfFailing at s (take k (enumerate_from 0 s.shells) ++ (k, h) ∷ [])) (sym en)
    (one_fails at s (take k (enumerate_from 0 s.shells)) (k, h) xs y are fails e))

pub all_done : {X : Type 0} (at : X → ℕ) (s : SolidData) (k : ℕ) (xs : List X) → length s.shells ≤ k → SoFar at s k xs → OneEach at s xs
all_done at s k xs past are =
    subst (λ hs. AreOfFailing at s hs xs) (take_all k (enumerate_from 0 s.shells) (omega (arith, past, length-enumerate_from 0 s.shells))) are
