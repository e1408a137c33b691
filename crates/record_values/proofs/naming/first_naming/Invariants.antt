use Rattle.std.proofs.Common.{◌≡◌, ℕ, ℤ, Bool, ◌∷◌}
use Rattle.record_values.specs.Naming.{first_naming, first_of, names, names_in_shell}
use Rattle.record_values.proofs.Names.{items_from}
use Rattle.record_values.proofs.naming.first_naming.Given as goal

abbrev pub invariant-shells : goal.invariant-shells
invariant-shells l = first_of l.number
    (items_from (λ (x : ℕ × (ℤ × Bool)). names l.solid x.0 x.1.0 ∷ names_in_shell l.file x.1.0) (l.record.outer ∷ l.record.voids) l.item)
    ≡ first_naming l.file l.solid l.number
