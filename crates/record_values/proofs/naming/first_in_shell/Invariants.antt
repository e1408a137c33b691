use Rattle.std.proofs.Common.{◌≡◌, ℕ, ℤ, Bool, ◌∷◌}
use Rattle.record_values.specs.Naming.{first_of, names, names_in_face, names_in_shell}
use Rattle.record_values.proofs.Names.{items_from}
use Rattle.record_values.proofs.naming.first_in_shell.Given as goal

abbrev pub invariant-faces : goal.invariant-faces
invariant-faces l = first_of l.number (items_from (λ (x : ℕ × (ℤ × Bool)). names l.shell x.0 x.1.0 ∷ names_in_face l.file x.1.0) l.record l.item)
    ≡ first_of l.number (names_in_shell l.file l.shell)
