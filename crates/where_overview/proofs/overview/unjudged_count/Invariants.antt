use Rattle.std.proofs.Common.{◌≡◌, ◌≤◌, take}
use Rattle.std.specs.Prelude.{count_by}
use Rattle.where_overview.specs.Overview.{is_unjudged}
use Rattle.where_overview.proofs.overview.unjudged_count.Given as goal

abbrev pub invariant-verdicts : goal.invariant-verdicts
invariant-verdicts l = record { count : l.count ≡ count_by is_unjudged (take l.i l.verdicts); few : l.count ≤ l.i }
