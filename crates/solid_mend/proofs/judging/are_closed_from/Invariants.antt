use Rattle.std.proofs.Common.{◌≡◌, ◌≤◌, ◌<◌, ◌+◌, ◌*◌, ℕ, IsTrue}
use Rattle.iges_params.specs.Solids.{is_solid_at}
use Rattle.solid_verdict.specs.Closed.{IsClosed}
use Rattle.solid_mend.proofs.judging.are_closed_from.Given as goal

abbrev pub invariant-entries : goal.invariant-entries
invariant-entries l = record {
  file : l.walker ≡ l.file;
  closed : (j : ℕ) → l.from ≤ j → j < l.i → IsTrue (is_solid_at l.file j) → IsClosed l.file (2 * j + 1);
}
