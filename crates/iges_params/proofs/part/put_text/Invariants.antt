use Rattle.std.proofs.Common.{◌≡◌, ◌+◌}
use Rattle.std.specs.Prelude.{IsTrue, flat_map, slice_range}
use Rattle.iges_base.specs.InLine.{is_in_line}
use Rattle.iges_lines.specs.Lines.{columns}
use Rattle.iges_params.specs.Parts.{part_lines}
use Rattle.iges_params.proofs.part.put_text.Given as goal

abbrev pub invariant-lines : goal.invariant-lines
invariant-lines l = record {
  joined : l.text.items ≡ flat_map (columns 1 l.width) (slice_range (part_lines l.part l.sections) l.from (l.from + l.i));
  in_line : IsTrue (is_in_line l.text.items);
}
