-- What a piece between two line ends is.
use Rattle.std.specs.Prelude.{ℕ, Bool, ◌||◌, nat_le, nat_lt, List, [], ◌∷◌, length, drop, Option, Some, None, is_some, if◌then◌else◌, slice_index}
use Rattle.std.specs.List.{list_all}
use Rattle.iges_base.specs.First.{first_failing}
use Rattle.line_layout.specs.declared.counting.LineCounts.{LineCounts}
use Rattle.line_layout.specs.declared.fault.LayoutReason.{LayoutReason}
use Rattle.line_layout.specs.declared.fault.LayoutReason.TheVariants.{Utf16, Gzip, Tab, Short, Letter, Number, Long, Order, Missing, Many}
use Rattle.line_layout.specs.declared.judging.Judged.{Judged}
use Rattle.line_layout.specs.declared.judging.Judged.TheVariants.{Blank, Bad, Good}
use Rattle.line_layout.specs.declared.letters.Section.{Section}
use Rattle.line_layout.specs.Columns.{columns}
use Rattle.line_layout.specs.Counts.{count_of, counted, is_in_order, is_due}
use Rattle.line_layout.specs.Letters.{is_last, section_of}
use Rattle.line_layout.specs.Marks.{is_blank, is_tail_byte, begins_with_two, has_tab, unmarked}

-- the letter in column 73
abbrev pub letter : List ℕ → ℕ
letter line = slice_index line 72

-- The line has a letter in column 73, and after it nothing but what a number and its blanks are written with.
abbrev pub line_tests : List ℕ → List (Bool × LayoutReason)
line_tests line =
    (nat_le 73 (length line), Short) ∷
    (is_some (section_of (letter line)), Letter) ∷
    (list_all is_tail_byte (columns 74 80 line), Number) ∷
    (is_blank (drop 80 line), Long) ∷ []

unfoldable pub line_fault : List ℕ → Option LayoutReason
line_fault line = first_failing (line_tests line)

-- the order of the sections, and that seven columns can number their lines
abbrev pub section_tests : LineCounts → Section → List (Bool × LayoutReason)
section_tests c s =
    (is_in_order c s, Order) ∷
    (is_due c s, Missing) ∷
    (nat_lt (count_of c s) 9999999, Many) ∷ []

unfoldable pub section_fault : LineCounts → Section → Option LayoutReason
section_fault c s = first_failing (section_tests c s)

-- a plainer reason, where the piece shows one
unfoldable pub named : List ℕ → LayoutReason → LayoutReason
named piece reason =
    if begins_with_two piece 255 254 || begins_with_two piece 254 255 then Utf16
    else (if begins_with_two piece 31 139 then Gzip
    else (if has_tab piece then Tab
    else reason))

abbrev pub unless_named : List ℕ → Option LayoutReason → Judged → Judged
unless_named piece (Some reason) judged = Bad (named piece reason)
unless_named piece None judged = judged

abbrev pub unless_bad : Option LayoutReason → Judged → Judged
unless_bad (Some reason) judged = Bad reason
unless_bad None judged = judged

abbrev pub judge_section : LineCounts → Option Section → Judged
judge_section c None = Bad Letter
judge_section c (Some s) = unless_bad (section_fault c s) (Good s)

-- a piece that isn't blank, and its line
abbrev pub judge_line : LineCounts → List ℕ → List ℕ → Judged
judge_line c piece line = unless_named piece (line_fault line) (judge_section c (section_of (letter line)))

-- where so many lines of each section come before it
unfoldable pub judge : LineCounts → List ℕ → Judged
judge c piece = if is_blank (unmarked piece) then Blank else judge_line c piece (unmarked piece)

-- the lines so far after a piece, if the lines go on there
abbrev pub lines_after : LineCounts → Judged → Option LineCounts
lines_after c Blank = Some c
lines_after c (Bad reason) = None
lines_after c (Good s) = if is_last s then None else Some (counted c s)
