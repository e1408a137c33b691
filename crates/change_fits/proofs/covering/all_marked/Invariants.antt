use Rattle.std.specs.Prelude.{◌<◌, ℕ, false, IsTrue, get_or}
use Rattle.change_fits.proofs.covering.all_marked.Given as goal

abbrev pub invariant-marks : goal.invariant-marks
invariant-marks l = (k : ℕ) → k < l.i → IsTrue (get_or l.marks k false)
