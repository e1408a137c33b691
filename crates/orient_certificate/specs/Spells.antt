-- Private: the words of a line.
use Rattle.std.specs.Prelude.{◌≡◌, ℕ, List, ⊤}
use Rattle.orient_certificate.specs.declared.line.OrientLine.{OrientLine}
use Rattle.orient_certificate.specs.declared.line.OrientLineFault.{OrientLineFault}
use Rattle.orient_certificate.specs.declared.line.OrientLineFault.TheVariants.{Misspelt, NoMemory}
use Rattle.orient_certificate.specs.Line.{HasSpelling, words}

-- the text is the words of the line
abbrev pub Spells : List ℕ → OrientLine → Type 0
Spells text line = HasSpelling line × (text ≡ words line)

-- the text is the words of no line, or memory ran out
abbrev pub IsTextFault : List ℕ → OrientLineFault → Type 0
IsTextFault text Misspelt = (line : OrientLine) → ¬ Spells text line
IsTextFault text NoMemory = ⊤
