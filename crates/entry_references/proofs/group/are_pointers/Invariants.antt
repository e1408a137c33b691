use Rattle.std.proofs.Common.{◌≡◌, ◌+◌, ◌-◌, drop, take}
use Rattle.std.specs.List.{list_all}
use Rattle.entry_references.specs.Layout.{is_pointer}
use Rattle.entry_references.proofs.group.are_pointers.Given as goal

abbrev pub invariant-values : goal.invariant-values
invariant-values l = list_all is_pointer (take (l.count - l.i) (drop (l.before + l.i) l.values)) ≡ list_all is_pointer (take l.count (drop l.before l.values))

abbrev pub decreases-values : goal.decreases-values
decreases-values l = l.count - l.i
