-- Tables of tests, of which the first that fails counts.
use Rattle.std.proofs.Common.{◌≡◌, inl, inr, Bool, true, List, [], ◌∷◌, Some, None, refl, sym, ◌∙◌}
use Rattle.std.specs.List.{AllByRecursion}
use Rattle.std.proofs.lemmas.Bool.{cases_Bool, cond-true, cond-false}
use Rattle.iges_base.specs.First.{first_failing}

-- a table without a failing test
pub passes : {R : Type 0} (tests : List (Bool × R)) → first_failing tests ≡ None → AllByRecursion (λ (t : Bool × R). t.0 ≡ true) tests
passes [] e = tt
passes (t ∷ tests) e =
    elim (cases_Bool t.0) [
      | inl h ↦ (h, passes tests (sym (cond-true t.0 (first_failing tests) (Some t.1) h) ∙ e))
      | inr h ↦ let no : Some t.1 ≡ None = sym (cond-false t.0 (first_failing tests) (Some t.1) h) ∙ e in absurd cc
    ]

pub passed : {R : Type 0} (tests : List (Bool × R)) → AllByRecursion (λ (t : Bool × R). t.0 ≡ true) tests → first_failing tests ≡ None
passed [] h = refl
passed (t ∷ tests) h = cond-true t.0 (first_failing tests) (Some t.1) h.0 ∙ passed tests h.1
