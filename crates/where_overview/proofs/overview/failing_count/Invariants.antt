use Rattle.std.proofs.Common.{◌≡◌, ◌≤◌, take}
use Rattle.std.specs.Prelude.{count_by}
use Rattle.where_overview.specs.Overview.{fails}
use Rattle.where_overview.proofs.overview.failing_count.Given as goal

abbrev pub invariant-verdicts : goal.invariant-verdicts
invariant-verdicts l = record { count : l.count ≡ count_by fails (take l.i l.verdicts); few : l.count ≤ l.i }
