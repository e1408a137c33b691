use Rattle.std.proofs.Common.{drop, map}
use Rattle.record_values.specs.Expected.{single}
use Rattle.record_values.proofs.Going.{Gets}
use Rattle.record_values.proofs.misfit.after_group.Given as goal

abbrev pub invariant-slots : goal.invariant-slots
invariant-slots l = Gets l.values l.at (map single l.shape) l.next (map single (drop l.slot-index l.shape))
