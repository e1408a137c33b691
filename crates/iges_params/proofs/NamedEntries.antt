-- The entry that a number names.
use Rattle.std.proofs.Common.{◌≡◌, ℕ, ◌/◌, ◌%◌, true, false, List, ℤ, pos, Some, None, sym, ap, ◌∙◌, arith, eq-eqb}
use Rattle.std.specs.Prelude.{◌==◌, slice_get}
use Rattle.std.specs.Ordering.{int_eq}
use Rattle.std.proofs.lemmas.Bool.{cond-true, cond-false}
use Rattle.std.proofs.lemmas.Bool.Decides.{Decides-int_eq}
use Rattle.std.proofs.lemmas.Bool.{cases_Bool}
use Rattle.std.proofs.Common.{◌⊎◌, inl, inr}
use Rattle.iges_directory.specs.Named.{unless_unused, named_in}

-- an odd number names the entry at its half, where that one is used
pub named_used : {X : Type 0} (kind : X → ℤ) (entries : List X) (n : ℕ) (x : X) → (n % 2 ≡ 0 → ⊥) → slice_get entries (n / 2) ≡ Some x → (kind x ≡ pos 0 → ⊥) →
    Some x ≡ named_in kind entries (pos n)
named_used kind entries n x odd is used =
    sym (
    cond-true (n % 2 == 1) (unless_unused kind (slice_get entries (n / 2))) None (eq-eqb (n % 2) 1 (omega arith))
    ∙ ap (unless_unused kind) is
    ∙ cond-false (int_eq (kind x) (pos 0)) None (Some x) (is_used (cases_Bool (int_eq (kind x) (pos 0))))
    )
  where
    is_used : (int_eq (kind x) (pos 0) ≡ true) ⊎ (int_eq (kind x) (pos 0) ≡ false) → int_eq (kind x) (pos 0) ≡ false
    is_used (inl t) = absurd (used ((Decides-int_eq (kind x) (pos 0)).0 t))
    is_used (inr e) = e
