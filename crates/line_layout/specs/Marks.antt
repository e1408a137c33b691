-- Bytes that stand for nothing, and marks before a line.
use Rattle.std.specs.Prelude.{ℕ, Bool, ◌||◌, ◌&&◌, ◌==◌, nat_lt, List, length, drop, is_some, if◌then◌else◌, slice_index}
use Rattle.std.specs.Char.{is_ascii_digit}
use Rattle.std.specs.List.{list_all, list_any}
use Rattle.line_layout.specs.Letters.{section_of}

-- NUL, tab, form feed, CR, Ctrl-Z and space
abbrev pub is_blank_byte : ℕ → Bool
is_blank_byte b = b == 32 || b == 13 || b == 9 || b == 0 || b == 12 || b == 26

-- what may stand in columns 74 to 80: no letter
abbrev pub is_tail_byte : ℕ → Bool
is_tail_byte b = is_ascii_digit b || b == 43 || b == 45 || is_blank_byte b

abbrev pub is_blank : List ℕ → Bool
is_blank text = list_all is_blank_byte text

abbrev pub has_tab : List ℕ → Bool
has_tab text = list_any (λ b. b == 9) text

abbrev pub begins_with_two : List ℕ → ℕ → ℕ → Bool
begins_with_two text first second = nat_lt 1 (length text) && slice_index text 0 == first && slice_index text 1 == second

-- the letter of a section stands at a place, from 0
abbrev pub has_letter_at : List ℕ → ℕ → Bool
has_letter_at text at = nat_lt at (length text) && is_some (section_of (slice_index text at))

-- The line without a byte order mark or a form feed before it. They are marks only where the letter stands in column 73 after them.
unfoldable pub unmarked : List ℕ → List ℕ
unmarked piece =
    if has_letter_at piece 75 && begins_with_two piece 239 187 && slice_index piece 2 == 191 then drop 3 piece
    else (if has_letter_at piece 73 && slice_index piece 0 == 12 then drop 1 piece
    else piece)
