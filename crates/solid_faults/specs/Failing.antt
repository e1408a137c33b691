-- Which obligations of a list fail, in order.
use Rattle.std.specs.Prelude.{◌≡◌, List, [], ◌∷◌, ◌⊎◌}
use Rattle.solid_data.specs.declared.verdict.Failing.{Failing}
use Rattle.solid_data.specs.Obligations.{Obligation}

-- Each obligation holds or doesn't, and the names are those of the ones that don't, in their order.
abbrev pub AreFailing : List Obligation → List Failing → Type 0
AreFailing [] xs = xs ≡ []
AreFailing (o ∷ os) [] = o.holds × AreFailing os []
AreFailing (o ∷ os) (x ∷ xs) = (o.holds × AreFailing os (x ∷ xs)) ⊎ ((¬ o.holds) × (x ≡ o.failing) × AreFailing os xs)
