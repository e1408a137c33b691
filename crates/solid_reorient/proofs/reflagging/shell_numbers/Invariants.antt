use Rattle.std.proofs.Common.{◌≡◌, ℤ, Bool, map, take}
use Rattle.std.specs.Prelude.{◌∷◌}
use Rattle.solid_reorient.proofs.reflagging.shell_numbers.Given as goal

abbrev pub invariant-shells : goal.invariant-shells
invariant-shells l = l.list ≡ map (λ (p : ℤ × Bool). p.0) (take l.i (l.record.outer ∷ l.record.voids))
