-- The letters that name sections.
use Rattle.std.specs.Prelude.{ℕ, Bool, true, false, ◌||◌, ◌==◌, Option, Some, None, if◌then◌else◌}
use Rattle.line_layout.specs.declared.letters.Section.{Section}
use Rattle.line_layout.specs.declared.letters.Section.TheVariants.{Start, Global, Directory, Param, Terminate}

-- the section that a letter names, in lower case too
unfoldable pub section_of : ℕ → Option Section
section_of b =
    if b == 83 || b == 115 then Some Start
    else (if b == 71 || b == 103 then Some Global
    else (if b == 68 || b == 100 then Some Directory
    else (if b == 80 || b == 112 then Some Param
    else (if b == 84 || b == 116 then Some Terminate
    else None))))

-- the letter that is written
abbrev pub letter_of : Section → ℕ
letter_of Start = 83
letter_of Global = 71
letter_of Directory = 68
letter_of Param = 80
letter_of Terminate = 84

abbrev pub is_last : Section → Bool
is_last Terminate = true
is_last Start = false
is_last Global = false
is_last Directory = false
is_last Param = false
