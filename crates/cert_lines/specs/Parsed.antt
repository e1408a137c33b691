-- What the code says of a line, in the words of lines.
use Rattle.std.specs.Prelude.{◌≡◌, ℕ, List, ⊤}
use Rattle.cert_text.specs.Text.{spaced}
use Rattle.cert_lines.specs.Line.{CertLine, head, solid, shell, edge, corner, point, reach, tally, end, HasSpelling, words, IsLine, IsLong, IsMisspelt}
use Rattle.cert_lines.specs.declared.parsed.ParsedLine.{ParsedLine}
use Rattle.cert_lines.specs.declared.parsed.ParsedLine.TheVariants.{Head, Solid, Shell, Edge, Corner, Point, Reach, Tally as TallyLine, End}
use Rattle.cert_lines.specs.declared.parsed.Judged.{Judged}
use Rattle.cert_lines.specs.declared.parsed.Judged.TheVariants.{Spelled, Misspelt, Long}

-- the words are those of the line
abbrev pub Means : ParsedLine → CertLine → Type 0
Means (Head v) line = line ≡ head v
Means (Solid n) line = line ≡ solid n
Means (Shell k counts) line = line ≡ shell k counts
Means (Edge a b) line = line ≡ edge a b
Means (Corner text) line = (rs : List ℕ) × (line ≡ corner rs) × (text.now ≡ spaced rs)
Means (Point face l) line = line ≡ point face l
Means (Reach r) line = line ≡ reach r
Means (TallyLine t) line = line ≡ tally t
Means End line = line ≡ end

-- a line of the shell at hand, after its SHELL line
abbrev pub IsRowLine : CertLine → Type 0
IsRowLine (edge a b) = ⊤
IsRowLine (corner rs) = ⊤
IsRowLine (point face l) = ⊤
IsRowLine (reach r) = ⊤
IsRowLine (tally t) = ⊤
IsRowLine _ = ⊥

-- what is found of bytes that may be so many
abbrev pub IsJudged : ℕ → List ℕ → Judged → Type 0
IsJudged limit bytes (Spelled w) = (line : CertLine) × Means w line × IsLine limit bytes line
IsJudged limit bytes Misspelt = IsMisspelt limit bytes
IsJudged limit bytes Long = IsLong limit bytes

-- the text is the words of the line
abbrev pub Spells : List ℕ → CertLine → Type 0
Spells text line = HasSpelling line × (text ≡ words line)
