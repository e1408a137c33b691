use Rattle.std.proofs.Common.{◌≡◌, ◌+◌, drop, not}
use Rattle.std.specs.Prelude.{slice_range}
use Rattle.std.specs.List.{position_from}
use Rattle.iges_params.specs.Records.{points_back}
use Rattle.iges_params.proofs.record.later_foreign.Given as goal

abbrev pub invariant-lines : goal.invariant-lines
invariant-lines l =
    let record_lines = slice_range l.sections.param l.from (l.from + l.count) in
    position_from (λ r. not (points_back l.number r)) l.i (drop l.i record_lines) ≡ position_from (λ r. not (points_back l.number r)) 0 record_lines
