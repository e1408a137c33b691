-- Private: how many lines the sections have.
use Rattle.std.specs.Prelude.{length}
use Rattle.iges_lines.specs.Lines.{SectionLines}
use Rattle.line_layout.specs.declared.counting.LineCounts.{LineCounts}

abbrev pub counts_of : SectionLines → LineCounts
counts_of s = record { start = length s.start; global = length s.global; directory = length s.directory; param = length s.param }
