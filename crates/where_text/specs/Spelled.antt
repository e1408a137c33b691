-- How words and values are written in a line.
use Rattle.std.specs.Prelude.{ℕ, Bool, not, ◌&&◌, ◌||◌, ◌==◌, ◌-◌, nat_lt, ℤ, List, [], ◌++◌, map, take, length, get_or, Option, unwrap_or, codes}
use Rattle.std.specs.Prelude.{if◌then◌else◌}
use Rattle.std.specs.Fmt.{signed_decimal}
use Rattle.iges_fields.specs.declared.value.Value.{Value}
use Rattle.iges_fields.specs.declared.value.Value.TheVariants as value

-- a space, then the word
abbrev pub space_word : List ℕ → List ℕ
space_word word = codes " " ++ word

-- plain decimal, with a minus where the number is negative
abbrev pub signed : ℤ → List ℕ
signed n = signed_decimal n

-- the bytes of a file as they are shown: a question mark for each that isn't printed
abbrev pub masked_byte : ℕ → ℕ
masked_byte b = if nat_lt b 32 || b == 127 then 63 else b

abbrev pub masked : List ℕ → List ℕ
masked bytes = map masked_byte bytes

-- ---- words of more bytes than a limit

-- a byte that continues a character of UTF-8
abbrev pub continues : ℕ → Bool
continues b = not (nat_lt b 128) && nat_lt b 192

-- a word may be cut before its i-th byte, from 0: no character is cut in two
unfoldable pub may_cut : List ℕ → ℕ → Bool
may_cut word i = not (continues (get_or word i 0))

-- where a long word is cut: after as many bytes as may be, the limit or up to three less; after the limit where it may be cut at none of these places
unfoldable pub cut_place : ℕ → List ℕ → ℕ
cut_place limit word =
    if may_cut word limit then limit
    else (if may_cut word (limit - 1) then limit - 1
    else (if may_cut word (limit - 2) then limit - 2
    else (if may_cut word (limit - 3) then limit - 3 else limit)))

-- the bytes of a word that are written
unfoldable pub kept : ℕ → List ℕ → List ℕ
kept limit word = if nat_lt limit (length word) then take (cut_place limit word) word else word

-- the mark of a word that is cut
unfoldable pub cut_mark : ℕ → List ℕ → List ℕ
cut_mark limit word = if nat_lt limit (length word) then codes ".." else []

abbrev pub shortened : ℕ → List ℕ → List ℕ
shortened limit word = kept limit word ++ cut_mark limit word

-- a text as it is shown: 100 bytes at most
abbrev pub text_shown : List ℕ → List ℕ
text_shown text = masked (kept 100 text) ++ cut_mark 100 text

-- a value as it is shown: the digits of an integer, a real's word within a limit, the bytes of a text, and `-` for one that is left out
abbrev pub spelled_within : ℕ → Value → List ℕ
spelled_within limit value.Default = codes "-"
spelled_within limit (value.Int n) = signed n
spelled_within limit (value.Real word) = shortened limit word
spelled_within limit (value.Text text) = text_shown text

-- a value that stands by itself: 100 bytes of a real at most
abbrev pub spelled : Value → List ℕ
spelled v = spelled_within 100 v

-- the same, and `-` for none
abbrev pub spelled_if : Option Value → List ℕ
spelled_if v = spelled (unwrap_or v value.Default)

-- a value in a list: 32 bytes of a real at most
abbrev pub listed : Value → List ℕ
listed v = spelled_within 32 v

abbrev pub listed_if : Option Value → List ℕ
listed_if v = listed (unwrap_or v value.Default)
