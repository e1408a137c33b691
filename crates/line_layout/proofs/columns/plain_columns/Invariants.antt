use Rattle.std.proofs.Common.{◌≡◌, length, map, take}
use Rattle.line_layout.specs.Columns.{plain}
use Rattle.line_layout.proofs.columns.plain_columns.Given as goal

abbrev pub invariant-bytes : goal.invariant-bytes
invariant-bytes l = record {
  so_far : take l.i l.columns ≡ map plain (take l.i l.field);
  long : length l.columns ≡ 8;
}
