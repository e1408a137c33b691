use Rattle.std.proofs.Common.{◌≡◌, ◌≤◌, [], length}
use Rattle.iges_params.specs.FromLast.{AreRead, IsFront, LieWithin}
use Rattle.iges_params.proofs.records_read.read_and_give_back.Given as goal

abbrev pub invariant-down : goal.invariant-down
invariant-down l = record {
  few : length l.lines.param ≤ length l.fn.lines.param;
  left : l.records.left ≤ length l.entries;
  spare_empty : l.records.spare ≡ [];
  front : IsFront l.lines.param l.fn.lines.param;
  records : LieWithin (length l.lines.param) l.records.left l.entries;
  read : AreRead l.above l.fn.lines.param l.delims l.entries l.records;
}

abbrev pub decreases-down : goal.decreases-down
decreases-down l = l.records.left
