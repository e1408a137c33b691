use Rattle.std.proofs.Common.{◌≡◌, ℕ, length, slice_get, Some}
use Rattle.orient_certificate.specs.declared.crossing.Crossing.{Crossing}
use Rattle.orient_certificate.specs.Crossings.{IsStep}
use Rattle.orient_certificate.proofs.crossing.steps_of.Given as goal

abbrev pub invariant-rows : goal.invariant-rows
invariant-rows l = record {
  each : length l.crossings.items ≡ l.r;
  steps : (r : ℕ) (c : Crossing) → slice_get l.crossings.items r ≡ Some c → IsStep l.fn.rows l.forwards r c;
}
