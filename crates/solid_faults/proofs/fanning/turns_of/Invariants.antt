use Rattle.std.proofs.Common.{◌≡◌, ℕ, Some, slice_get, length}
use Rattle.edge_uses.specs.RowRelations.{Turns}
use Rattle.solid_faults.proofs.fanning.turns_of.Given as goal

abbrev pub invariant-rows : goal.invariant-rows
invariant-rows l = record {
  each : length l.out.items ≡ l.i;
  turns : (r : ℕ) (p : ℕ × ℕ) → slice_get l.out.items r ≡ Some p → (p.0 ≡ r) × Turns l.paired p.0 p.1;
}
