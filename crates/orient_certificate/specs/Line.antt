-- The lines of an orientation's text, and how they are spelled.
use Rattle.std.specs.Prelude.{◌≡◌, ℕ, ◌<◌, Bool, true, false, List, [], ◌∷◌, ◌++◌, length, map, codes, ⊤}
use Rattle.std.specs.List.{AllByRecursion}
use Rattle.cert_text.specs.Text.{IsShort, spaced}
use Rattle.orient_certificate.specs.declared.line.OrientLine.{OrientLine}
use Rattle.orient_certificate.specs.declared.line.OrientLine.TheVariants.{Head, Flags, Ring, End}
use Rattle.orient_certificate.specs.declared.line.OrientLineFault.{OrientLineFault}
use Rattle.orient_certificate.specs.declared.line.OrientLineFault.TheVariants.{Misspelt, NoMemory}

abbrev pub flag_number : Bool → ℕ
flag_number true = 1
flag_number false = 0

abbrev pub words : OrientLine → List ℕ
words (Head solid) = codes "ORIENT" ++ spaced (solid.0 ∷ [])
words (Flags shell flags) = codes "F" ++ spaced (shell ∷ map flag_number flags)
words (Ring shell rows) = codes "O" ++ spaced (shell ∷ rows)
words End = codes "END"

-- the bytes of a line, with the LF at its end
abbrev pub spelling : OrientLine → List ℕ
spelling line = words line ++ 10 ∷ []

-- each number has at most 9 digits, and there is a flag or a row
abbrev pub HasSpelling : OrientLine → Type 0
HasSpelling (Head solid) = IsShort solid.0
HasSpelling (Flags shell flags) = IsShort shell × (0 < length flags)
HasSpelling (Ring shell rows) = AllByRecursion IsShort (shell ∷ rows) × (0 < length rows)
HasSpelling End = ⊤

-- the bytes are the spelling of the line
abbrev pub IsSpelled : List ℕ → OrientLine → Type 0
IsSpelled bytes line = HasSpelling line × (bytes ≡ spelling line)

-- The bytes spell no line, or memory ran out.
abbrev pub IsLineFault : List ℕ → OrientLineFault → Type 0
IsLineFault bytes Misspelt = (line : OrientLine) → ¬ IsSpelled bytes line
IsLineFault bytes NoMemory = ⊤
