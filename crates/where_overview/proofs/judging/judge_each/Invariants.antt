use Rattle.std.proofs.Common.{◌≡◌, ◌≤◌, ◌++◌, ℕ, Some, drop, length, map, slice_get}
use Rattle.iges_base.specs.declared.entry_no.EntryNo.{EntryNo}
use Rattle.solid_verdict.specs.Closed.{IsVerdictOn}
use Rattle.solid_data.specs.declared.verdict.Verdict.{Verdict}
use Rattle.where_overview.specs.Overview.{is_judged, judged_from}
use Rattle.where_overview.proofs.judging.judge_each.Given as goal

abbrev pub invariant-solids : goal.invariant-solids
invariant-solids l = record {
  file : l.walker ≡ l.sized.file.now;
  within : l.total ≤ l.sized.limit;
  each : length l.verdicts ≡ l.i;
  judged : map is_judged l.verdicts ++ judged_from l.sized.limit l.total (drop l.i l.sized.sizes.now) ≡ judged_from l.sized.limit 0 l.sized.sizes.now;
  verdict : (j : ℕ) (n : EntryNo) (v : Verdict) → slice_get l.sized.solids.now j ≡ Some n → slice_get l.verdicts j ≡ Some (Some v)
      → IsVerdictOn l.sized.file.now n.0 v;
}
