-- Bytes that lie in lines, which hold no LF.
use Rattle.std.specs.Prelude.{ℕ, Bool, not, ◌==◌, List}
use Rattle.std.specs.List.{list_all}

-- bytes without LF
abbrev pub is_in_line : List ℕ → Bool
is_in_line bytes = list_all (λ b. not (b == 10)) bytes
