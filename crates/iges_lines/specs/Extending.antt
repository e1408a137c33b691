-- Private: sections that grew, and how far they had come.
use Rattle.std.specs.Prelude.{◌≡◌, ◌++◌, length}
use Rattle.iges_lines.specs.Lines.{SectionLines}
use Rattle.iges_lines.specs.Feeding.{Taken}
use Rattle.iges_lines.specs.declared.section_table.LineCounts.{LineCounts}
use Rattle.iges_lines.specs.declared.taken_lines.Mark.{Mark}

abbrev pub with_lines : SectionLines → SectionLines → SectionLines
with_lines s m = record { start = s.start ++ m.start; global = s.global ++ m.global; directory = s.directory ++ m.directory; param = s.param ++ m.param }

-- the sections are these with more lines at their ends
abbrev pub Extends : SectionLines → SectionLines → Type 0
Extends s new = (more : SectionLines) × (new ≡ with_lines s more)

abbrev pub counts_of : SectionLines → LineCounts
counts_of s = record { start = length s.start; global = length s.global; directory = length s.directory; param = length s.param }

abbrev pub mark_of : Taken → Mark
mark_of t = record { counts = counts_of t.sections; terminated = t.terminated; number = t.number; fault = t.fault }
