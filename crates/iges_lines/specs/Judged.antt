-- Private: the tests of a line, and the sections with it.
use Rattle.std.specs.Prelude.{◌≡◌, ℕ, Bool, true, false, List, [], ◌∷◌, if◌then◌else◌}
use Rattle.iges_lines.specs.declared.reason.Reason.{Reason}
use Rattle.iges_lines.specs.declared.reason.Reason.TheVariants.{After}
use Rattle.iges_lines.specs.declared.kind.Kind.{Kind}
use Rattle.iges_lines.specs.Kinds.{IsKind, added, is_last}
use Rattle.iges_lines.specs.Lines.{SectionLines, letter}
use Rattle.iges_lines.specs.LineFaults.{line_tests}
use Rattle.iges_lines.specs.Sectioned.{is_blank}

-- the tests of a line, where it is known whether a terminate line comes before it
abbrev pub tests_behind : Bool → SectionLines → List ℕ → List (Bool × Reason)
tests_behind terminated s line = if terminated then (is_blank line, After) ∷ [] else line_tests s line

-- the sections and whether a terminate line has come, before and after a line
abbrev pub IsAdded : SectionLines → Bool → List ℕ → SectionLines → Bool → Type 0
IsAdded old true line new now = (new ≡ old) × (now ≡ true)
IsAdded old false line new now = (k : Kind) × IsKind k (letter line) × (new ≡ added old k line) × (now ≡ is_last k)
