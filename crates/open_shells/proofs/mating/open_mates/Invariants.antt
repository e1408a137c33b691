use Rattle.std.proofs.Common.{◌≡◌, ℕ, length}
use Rattle.std.specs.Prelude.{Some, slice_get, Option}
use Rattle.solid_data.specs.declared.solid.RowId.{RowId}
use Rattle.open_shells.specs.Mating.{IsMateOf}
use Rattle.open_shells.proofs.mating.open_mates.Given as goal

abbrev pub invariant-rows : goal.invariant-rows
invariant-rows l = record {
  len : length l.mates.items ≡ l.i;
  mate : (r : ℕ) (o : Option RowId) → slice_get l.mates.items r ≡ Some o → IsMateOf l.rows r o;
}
