use Rattle.std.proofs.Common.{take}
use Rattle.std.specs.Prelude.{IfSome}
use Rattle.std.specs.List.{AllZip}
use Rattle.record_numbers.specs.Keys.{AreNumbers}
use Rattle.solid_geometry.specs.Lines.{IsLineOf}
use Rattle.solid_geometry.proofs.lines.lines_of.Given as goal

abbrev pub invariant-curves : goal.invariant-curves
invariant-curves l = record {
  points : AreNumbers l.numbers.points;
  pairs : AreNumbers l.numbers.pairs;
  each : AllZip (IsLineOf l.file l.numbers.points l.numbers.pairs) (take l.curve-index l.curves) l.lines.items;
  seen : IfSome l.seen (λ s. IsLineOf l.file l.numbers.points l.numbers.pairs s.curve s.line);
}
