-- Numbers of a record that are read one by one.
use Rattle.std.specs.Prelude.{◌≡◌, ℕ, zero, suc, ◌+◌, ◌-◌, ◌<◌, ℤ, List, [], ◌∷◌, ◌++◌}
use Rattle.std.proofs.Common.{sym, ◌∙◌, ap, arith, append_assoc}
use Rattle.iges_fields.specs.declared.value.Value.{Value}
use Rattle.brep_lists.specs.Record.{int_at}
use Rattle.named_once.specs.Told.{numbers_from}

pub next_number : (vs : List Value) (at step left : ℕ) (numbers new : List ℤ) (z : ℤ) (all : List ℤ) → 0 < left → z ≡ int_at vs at
    → new ≡ numbers ++ z ∷ [] → numbers ++ numbers_from vs at step left ≡ all → new ++ numbers_from vs (at + step) step (left - 1) ≡ all
next_number vs at step zero numbers new z all some is en inv = absurd (omega (arith, some))
next_number vs at step (suc left) numbers new z all some is en inv =
    let less : suc left - 1 ≡ left = omega arith in
    ap (λ k. new ++ numbers_from vs (at + step) step k) less
    ∙ (ap (λ (xs : List ℤ). xs ++ numbers_from vs (at + step) step left) en
    ∙ (append_assoc numbers (z ∷ []) (numbers_from vs (at + step) step left)
    ∙ (ap (λ y. numbers ++ y ∷ numbers_from vs (at + step) step left) is ∙ inv)))
