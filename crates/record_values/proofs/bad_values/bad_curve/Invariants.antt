use Rattle.std.proofs.Common.{◌≡◌}
use Rattle.record_values.proofs.Curves.{first_from}
use Rattle.record_values.proofs.bad_values.bad_curve.Given as goal

abbrev pub invariant-curves : goal.invariant-curves
invariant-curves l = first_from l.file l.tuple.curves l.i ≡ first_from l.file l.tuple.curves 0
