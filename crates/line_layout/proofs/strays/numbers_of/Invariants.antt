use Rattle.std.proofs.Common.{◌≡◌, ◌++◌, drop, map}
use Rattle.line_layout.specs.declared.strays.Stray.{Stray}
use Rattle.line_layout.proofs.strays.numbers_of.Given as goal

abbrev pub invariant-strays : goal.invariant-strays
invariant-strays l = l.numbers.items ++ map (λ (r : Stray). r.number) (drop l.i l.strays) ≡ map (λ (r : Stray). r.number) l.strays
