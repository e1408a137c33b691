-- Private: what the code says of a line, in the words of lines.
use Rattle.std.specs.Prelude.{◌≡◌, ℕ, ◌<◌, ◌++◌, List, length, ⊤}
use Rattle.std.specs.List.{AllByRecursion}
use Rattle.cert_text.specs.Text.{spaced, IsShort}
use Rattle.open_certificate.specs.Line.{OpenLine, head, shell, edge, lone, cycle, path, point, reach, border, end, HasSpelling, words}
use Rattle.open_certificate.specs.declared.parsed.ParsedOpenLine.{ParsedOpenLine}
use Rattle.open_certificate.specs.declared.parsed.ParsedOpenLine.TheVariants.{Head, Shell, Edge, Lone, Cycle, Path, Point, Reach, Border, End}

abbrev pub Means : ParsedOpenLine → OpenLine → Type 0
Means Head line = line ≡ head
Means (Shell w) line = line ≡ shell w.shell w.rows w.edges w.corners w.faces w.borders
Means (Edge a b) line = line ≡ edge a b
Means (Lone a) line = line ≡ lone a
Means (Cycle text) line = (rs : List ℕ) × (line ≡ cycle rs) × (text.now ≡ spaced rs)
Means (Path text) line = (rs : List ℕ) × (line ≡ path rs) × (text.now ≡ spaced rs)
Means (Point face l) line = line ≡ point face l
Means (Reach r) line = line ≡ reach r
Means (Border text) line = (rs : List ℕ) × (line ≡ border rs) × (text.now ≡ spaced rs)
Means End line = line ≡ end

-- the text is the words of the line
abbrev pub Spells : List ℕ → OpenLine → Type 0
Spells text line = HasSpelling line × (text ≡ words line)

-- a line of the shell's rows or of a loop without an edge
abbrev pub IsRowLine : OpenLine → Type 0
IsRowLine head = ⊥
IsRowLine (shell n rows edges corners faces borders) = ⊥
IsRowLine end = ⊥
IsRowLine _ = ⊤

-- the text is a word and these numbers, of which there is at least one
pub record HasRowsAfter (text word : List ℕ) (rs : List ℕ) : Type 0 where
  pub short : AllByRecursion IsShort rs
  pub some : 0 < length rs
  pub text_is : text ≡ word ++ spaced rs
