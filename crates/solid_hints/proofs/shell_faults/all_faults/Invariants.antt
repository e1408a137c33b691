use Rattle.std.proofs.Common.{◌≡◌, ℕ, Some, length, slice_get}
use Rattle.edge_uses.specs.Before.{AreBelow}
use Rattle.solid_data.specs.declared.solid.Shell.{Shell}
use Rattle.solid_faults.specs.Faults.{AreFaults, Faults}
use Rattle.solid_hints.proofs.shell_faults.all_faults.Given as goal

abbrev pub invariant-shells : goal.invariant-shells
invariant-shells l = record {
  below : AreBelow l.solid l.k l.below;
  each : length l.all ≡ l.k;
  shell : (j : ℕ) (h : Shell) (x : Faults) → slice_get l.solid.shells j ≡ Some h → slice_get l.all j ≡ Some x → AreFaults l.solid j h x;
}
