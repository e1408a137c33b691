use Rattle.std.proofs.Common.{◌≡◌, ◌+◌, ◌*◌, ◌<◌, ◌≤◌, ℕ, Some, vec_len}
use Rattle.std.specs.Prelude.{slice_get}
use Rattle.iges_params.specs.FromLast.{LieWithin}
use Rattle.iges_params.proofs.records_read.block_needs.Given as goal

abbrev pub invariant-entries : goal.invariant-entries
invariant-entries l = record {
  few : 64 * vec_len l.needs < l.i + 64;
  many : l.i ≤ 64 * vec_len l.needs;
  most : LieWithin l.most l.i l.entries;
  needs : (block need : ℕ) → slice_get l.needs.items block ≡ Some need → LieWithin need (64 * block) l.entries;
}
