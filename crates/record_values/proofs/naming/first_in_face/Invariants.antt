use Rattle.std.proofs.Common.{◌≡◌, ℕ, ℤ, [], ◌∷◌}
use Rattle.record_values.specs.Naming.{first_of, names, names_in_face}
use Rattle.record_values.proofs.Names.{items_from}
use Rattle.record_values.proofs.naming.first_in_face.Given as goal

abbrev pub invariant-loops : goal.invariant-loops
invariant-loops l = first_of l.number (items_from (λ (x : ℕ × ℤ). names l.face x.0 x.1 ∷ []) l.record.loops l.item)
    ≡ first_of l.number (names_in_face l.file l.face)
