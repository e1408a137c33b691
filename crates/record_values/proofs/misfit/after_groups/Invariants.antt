use Rattle.std.proofs.Common.{map}
use Rattle.record_values.specs.Expected.{single, times}
use Rattle.record_values.proofs.Going.{Gets}
use Rattle.record_values.proofs.misfit.after_groups.Given as goal

abbrev pub invariant-groups : goal.invariant-groups
invariant-groups l = Gets l.values l.at (times l.count (map single l.shape)) l.next (times l.left (map single l.shape))

abbrev pub decreases-groups : goal.decreases-groups
decreases-groups l = l.left
