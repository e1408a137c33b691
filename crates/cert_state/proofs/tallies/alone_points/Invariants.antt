use Rattle.std.proofs.Common.{ℕ, ◌≡◌, ◌++◌, map, drop}
use Rattle.solid_data.specs.declared.solid.LoopAt.{LoopAt}
use Rattle.cert_state.specs.CheckState.{is_alone}
use Rattle.cert_state.proofs.tallies.alone_points.Given as goal

abbrev pub invariant-points : goal.invariant-points
invariant-points l = l.alone.items ++ map (λ (p : LoopAt × ℕ). is_alone l.rows p.1) (drop l.i l.rows.points) ≡ map (λ (p : LoopAt × ℕ). is_alone l.rows p.1)
    l.rows.points
