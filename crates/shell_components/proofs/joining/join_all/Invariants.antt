use Rattle.std.proofs.Common.{◌≡◌, ◌<◌, ℕ, length, slice_get, Some}
use Rattle.shell_components.specs.Components.{AreLabels}
use Rattle.shell_components.specs.Trees.{AreInOneTree}
use Rattle.shell_components.proofs.joining.join_all.Given as goal

abbrev pub invariant-pairs : goal.invariant-pairs
invariant-pairs l = record {
  kept : AreLabels l.pairs (length l.fn.labels.items) l.labels.items;
  one_tree : (j : ℕ) (p : ℕ × ℕ) → j < l.i → slice_get l.pairs j ≡ Some p → AreInOneTree l.labels.items p.0 p.1;
}
