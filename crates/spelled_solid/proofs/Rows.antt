-- A table of words that grows, and one that has words more.
use Rattle.std.specs.Prelude.{◌≡◌, ◌<◌, ℕ, zero, suc, List, [], ◌∷◌, ◌++◌, length, Some, slice_get}
use Rattle.std.proofs.Common.{sym, ◌∙◌, ap, subst, arith, inl, inr, set}
use Rattle.std.proofs.lemmas.Option.{same_Some, slice_get_within}
use Rattle.spelled_solid.specs.Words.{AreWords}

pub no_rows : (told : ℕ → List ℕ) → AreWords told []
no_rows told n w at = absurd (omega (arith, slice_get_within [] n w at))

pub row_pushed : (told : ℕ → List ℕ) (words new : List (List ℕ)) (row : List ℕ) → row ≡ [] → new ≡ words ++ row ∷ [] → AreWords told words
    → AreWords told new
row_pushed told words new row none is h n w at =
    grown told words h n w (subst (λ ws. slice_get ws n ≡ Some w) (is ∙ ap (λ r. words ++ r ∷ []) none) at)
  where
    grown : (told : ℕ → List ℕ) (words : List (List ℕ)) → AreWords told words → AreWords told (words ++ [] ∷ [])
    grown told [] h zero w at = inl (sym (same_Some [] w at))
    grown told [] h (suc n) w at = absurd (omega (arith, slice_get_within ([] ∷ []) (suc n) w at))
    grown told (x ∷ words) h zero w at = h zero w at
    grown told (x ∷ words) h (suc n) w at = grown (λ k. told (suc k)) words (λ k. h (suc k)) n w at

pub row_set : (told : ℕ → List ℕ) (words : List (List ℕ)) (k : ℕ) (text : List ℕ) → k < length words → text ≡ told k → AreWords told words
    → AreWords told (set words k text)
row_set told [] k text lt is h n w at = absurd (omega (arith, lt))
row_set told (x ∷ words) zero text lt is h zero w at = inr (sym (same_Some text w at) ∙ is)
row_set told (x ∷ words) zero text lt is h (suc n) w at = h (suc n) w at
row_set told (x ∷ words) (suc k) text lt is h zero w at = h zero w at
row_set told (x ∷ words) (suc k) text lt is h (suc n) w at =
    row_set (λ j. told (suc j)) words k text (omega (arith, lt)) is (λ j. h (suc j)) n w at
