use Rattle.std.proofs.Common.{◌≤◌, ℕ, List, length}
use Rattle.shell_components.specs.Components.{AreLabels, AreJoined}
use Rattle.shell_components.specs.Trees.{AreRehung, AreTopsKept, AreInOneTree}
use Rattle.shell_components.proofs.joining.top_of.Given as goal

abbrev pub invariant-ways : goal.invariant-ways
invariant-ways l = record {
  rehung : AreRehung l.fn.labels.items l.labels.items;
  tops : AreTopsKept l.fn.labels.items l.labels.items;
  low : l.at ≤ l.fn.x;
  one_tree : AreInOneTree l.labels.items l.fn.x l.at;
  joined : (pairs : List (ℕ × ℕ)) → AreLabels pairs (length l.fn.labels.items) l.fn.labels.items → AreJoined pairs l.fn.x l.at;
}

abbrev pub decreases-ways : goal.decreases-ways
decreases-ways l = l.at
