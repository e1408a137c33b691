-- The lines of a text that are kept, and what is kept of them.
use Rattle.std.specs.Prelude.{◌≡◌, ℕ, Bool, false, List, [], ◌∷◌, map, Option, Some, None, if◌then◌else◌}
use Rattle.iges_lines.specs.Lines.{SectionLines, joined}
use Rattle.iges_lines.specs.Sectioned.{IsSectioned}
use Rattle.line_layout.specs.declared.letters.Section.{Section}
use Rattle.line_layout.specs.Columns.{columns}
use Rattle.line_layout.specs.Judging.{letter}
use Rattle.line_layout.specs.Letters.{section_of, is_last}
use Rattle.line_layout.specs.Marks.{is_blank, unmarked}
use Rattle.line_layout.specs.Relaid.{pieces, end_byte}

-- the letter of the last section
abbrev pub ends : Option Section → Bool
ends None = false
ends (Some s) = is_last s

-- the lines before the terminate line, without the blank ones
unfoldable pub kept_lines : List (List ℕ) → List (List ℕ)
kept_lines [] = []
kept_lines (piece ∷ pieces) =
    if is_blank (unmarked piece) then kept_lines pieces
    else (if ends (section_of (letter (unmarked piece))) then []
    else unmarked piece ∷ kept_lines pieces)

-- the columns 1 to 72, and the section that the letter names
abbrev pub content_of : List ℕ → List ℕ × Option Section
content_of line = (columns 1 72 line, section_of (letter line))

-- The text that was made has sections, and their lines are those that were kept, in order, with the same content and section.
pub record IsMadeOf (bytes out : List ℕ) : Type 0 where
  pub sections : SectionLines
  pub is_read : IsSectioned out sections
  pub contents : map content_of (joined sections) ≡ map content_of (kept_lines (pieces (end_byte bytes) bytes))
