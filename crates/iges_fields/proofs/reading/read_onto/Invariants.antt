use Rattle.std.proofs.Common.{List, length, ◌≤◌, ◌++◌}
use Rattle.std.specs.Prelude.{IsTrue}
use Rattle.iges_fields.specs.declared.value.Value.{Value}
use Rattle.iges_base.specs.InLine.{is_in_line}
use Rattle.iges_fields.specs.Reading.{IsLeft}
use Rattle.iges_fields.proofs.reading.read_onto.Given as goal

abbrev pub invariant-items : goal.invariant-items
invariant-items l = record {
  within : length l.rest ≤ length l.text;
  in_line : IsTrue (is_in_line l.rest);
  left : (front : List Value) → IsLeft l.delims l.text (front ++ l.fn.values) l.fn.left → IsLeft l.delims l.text (front ++ l.values) l.rest;
}

abbrev pub decreases-items : goal.decreases-items
decreases-items l = length l.rest
