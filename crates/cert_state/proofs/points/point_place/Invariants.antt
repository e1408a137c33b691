use Rattle.std.proofs.Common.{ℕ, ◌-◌, ◌<◌, ◌≤◌, length, slice_get}
use Rattle.std.specs.Prelude.{Some, ◌≡◌}
use Rattle.solid_data.specs.declared.solid.LoopAt.{LoopAt}
use Rattle.cert_state.specs.Places.{IsNamed}
use Rattle.cert_state.proofs.points.point_place.Given as goal

abbrev pub invariant-halves : goal.invariant-halves
invariant-halves l = record {
  within : l.high ≤ length l.rows.points;
  below : (i : ℕ) (p : LoopAt × ℕ) → i < l.low → slice_get l.rows.points i ≡ Some p → IsNamed p.0 l.face l.place → ⊥;
  above : (i : ℕ) (p : LoopAt × ℕ) → l.high ≤ i → slice_get l.rows.points i ≡ Some p → IsNamed p.0 l.face l.place → ⊥;
}

abbrev pub decreases-halves : goal.decreases-halves
decreases-halves l = l.high - l.low
