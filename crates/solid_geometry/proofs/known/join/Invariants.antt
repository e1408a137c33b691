use Rattle.std.proofs.Common.{◌≡◌, map, take}
use Rattle.shell_change.specs.declared.geometry.CurveKnown.{CurveKnown}
use Rattle.solid_geometry.proofs.known.join.Given as goal

abbrev pub invariant-curves : goal.invariant-curves
invariant-curves l = record {
  records : map (λ (c : CurveKnown). c.record) l.curves ≡ take l.i l.records;
  lines : map (λ (c : CurveKnown). c.line) l.curves ≡ take l.i l.lines;
}
