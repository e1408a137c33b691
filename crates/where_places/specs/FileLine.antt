-- A line of a file, as it stands there.
use Rattle.std.specs.Prelude.{ℕ, zero, suc, Bool, not, ◌==◌, nat_lt, List, length, take}
use Rattle.std.specs.List.{prefix_len}
use Rattle.std.specs.Io.BufRead.{drop_through}
use Rattle.std.specs.Str.Lines.{strip_carriage_return}

-- the bytes from a line on, where this many lines come before it
unfoldable pub from_line : ℕ → List ℕ → List ℕ
from_line zero bytes = bytes
from_line (suc n) bytes = from_line n (drop_through 10 bytes)

-- the bytes before the first LF
abbrev pub piece_of : List ℕ → List ℕ
piece_of bytes = take (prefix_len (λ b. not (b == 10)) bytes) bytes

-- the first line of these bytes, without its end
unfoldable pub line_of : List ℕ → List ℕ
line_of bytes = strip_carriage_return (piece_of bytes)

-- LF ends the first line
abbrev pub has_lf : List ℕ → Bool
has_lf bytes = nat_lt (length (piece_of bytes)) (length bytes)

-- there is a CR at its end
abbrev pub has_cr : List ℕ → Bool
has_cr bytes = nat_lt (length (line_of bytes)) (length (piece_of bytes))
