use Rattle.std.proofs.Common.{◌≡◌, ◌-◌, [], length, drop}
use Rattle.record_values.specs.Expected.{misfit_from}
use Rattle.record_values.proofs.misfit.after_fillers.Given as goal

abbrev pub invariant-values : goal.invariant-values
invariant-values l = misfit_from l.from [] (drop l.from l.values) ≡ misfit_from l.at [] (drop l.at l.values)

abbrev pub decreases-values : goal.decreases-values
decreases-values l = length l.values - l.at
