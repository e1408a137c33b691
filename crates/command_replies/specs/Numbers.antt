-- The numbers that words write.
use Rattle.std.specs.Prelude.{ℕ, Bool, ◌&&◌, nat_le, List, length}
use Rattle.std.specs.Str.Parse.{digits_value}
use Rattle.iges_base.specs.declared.TheConstants.{LINE_LIMIT}
use Rattle.iges_base.specs.Word.{are_digits}

-- at least one digit and at most so many, for a number from the least to the greatest
abbrev pub is_number : ℕ → ℕ → ℕ → List ℕ → Bool
is_number digits least greatest w =
    are_digits w && nat_le (length w) digits && nat_le least (digits_value 10 w) && nat_le (digits_value 10 w) greatest

-- the directory number of an entry
abbrev pub is_entry_number : List ℕ → Bool
is_entry_number = is_number 7 1 LINE_LIMIT
