-- Private: the lines of a section with free text.
use Rattle.std.specs.Prelude.{ℕ, List}
use Rattle.iges_lines.specs.Lines.{SectionLines}
use Rattle.iges_params.specs.declared.part.Part.{Part}
use Rattle.iges_params.specs.declared.part.Part.TheVariants as part

abbrev pub part_lines : Part → SectionLines → List (List ℕ)
part_lines part.Global s = s.global
part_lines part.Param s = s.param
