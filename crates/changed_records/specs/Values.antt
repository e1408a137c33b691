-- Numbers and flags as values.
use Rattle.std.specs.Prelude.{ℕ, Bool, ℤ, pos, if◌then◌else◌}
use Rattle.iges_fields.specs.declared.value.Value.{Value}
use Rattle.iges_fields.specs.declared.value.Value.TheVariants as value

abbrev pub number_value : ℕ → Value
number_value n = value.Int (pos n)

-- the integer 1 or 0
abbrev pub flag_value : Bool → Value
flag_value b = value.Int (if b then pos 1 else pos 0)
