use Rattle.std.proofs.Common.{◌≡◌, ◌++◌, ℕ, drop, map}
use Rattle.solid_data.specs.declared.solid.LoopAt.{LoopAt}
use Rattle.shell_facts.proofs.turning.points_of.Given as goal

abbrev pub invariant-points : goal.invariant-points
invariant-points l = l.points.items ++ map (λ (p : LoopAt × ℕ). p.1) (drop l.i l.rows.points) ≡ map (λ (p : LoopAt × ℕ). p.1) l.rows.points
