use Rattle.std.proofs.Common.{◌≡◌, ◌<◌, ◌≤◌, ◌+◌, ◌*◌, ℕ, Bool, List, get_or, length, drop}
use Rattle.solid_reorient.specs.Reflagged.{flags_for}
use Rattle.solid_reorient.specs.Steps.{list_numbered}
use Rattle.solid_reorient.proofs.table.table_of.Given as goal

abbrev pub invariant-shells : goal.invariant-shells
invariant-shells l = record {
  few : l.k ≤ length l.shells;
  long : length l.table.items ≡ l.count;
  told : (flags : List (List Bool)) (p : ℕ) → p < l.count
      → list_numbered flags (get_or l.table.items p 0) ≡ flags_for (drop l.k flags) (drop l.k l.shells) (2 * p + 1);
}

abbrev pub decreases-shells : goal.decreases-shells
decreases-shells l = l.k
