use Rattle.std.proofs.Common.{◌≡◌, ◌-◌, drop, length}
use Rattle.std.specs.List.{list_all}
use Rattle.entry_references.specs.Refs.{is_left_out}
use Rattle.entry_references.proofs.group.are_left_out.Given as goal

abbrev pub invariant-values : goal.invariant-values
invariant-values l = list_all is_left_out (drop l.i l.values) ≡ list_all is_left_out (drop l.before l.values)

abbrev pub decreases-values : goal.decreases-values
decreases-values l = length l.values - l.i
