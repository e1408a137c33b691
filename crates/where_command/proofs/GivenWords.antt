-- The words that are given.
use Rattle.std.proofs.Common.{◌≡◌, ◌∙◌, ℕ, ◌<◌, ◌≤◌, List, [], ◌∷◌, length, map, Some, refl, sym, ap, arith, get_or, String, string_bytes, Global}
use Rattle.where_command.specs.declared.asked.Asked.TheVariants as asked
use Rattle.where_command.specs.Asked.{asked_of}

pub one_word : (words : List (String Global)) → 1 ≤ length words → length words < 2 → Some asked.Overview ≡ asked_of (map string_bytes words)
one_word [] some few = absurd (omega (arith, some))
one_word (w ∷ []) some few = refl
one_word (w ∷ v ∷ words) some few = absurd (omega (arith, few))

pub first_is : (words : List (String Global)) (x : String Global) (name : List ℕ) → 1 ≤ length words → x ≡ get_or words 0 x → name ≡ string_bytes x
    → (rest : List (List ℕ)) × (map string_bytes words ≡ name ∷ rest)
first_is [] x name some at is = absurd (omega (arith, some))
first_is (w ∷ words) x name some at is = (map string_bytes words, ap (λ z. z ∷ map string_bytes words) (sym (is ∙ ap string_bytes at)))
