-- The values that lines can hold.
use Rattle.std.specs.Prelude.{◌^◌, Bool, true, ◌&&◌, nat_lt, length}
use Rattle.iges_base.specs.InLine.{is_in_line}
use Rattle.iges_fields.specs.declared.value.Value.{Value}
use Rattle.iges_fields.specs.declared.value.Value.TheVariants as value
use Rattle.iges_fields.specs.FreeText.{fits_64_bits}
use Rattle.iges_base.specs.Reals.{is_real}

-- the bytes of a text hold no LF
abbrev pub stays_in_line : Value → Bool
stays_in_line value.Default = true
stays_in_line (value.Int n) = true
stays_in_line (value.Real word) = true
stays_in_line (value.Text text) = is_in_line text

-- a value that can be written: an integer of 64 bits, a real's word, or a text without LF whose length 64 bits can count
abbrev pub is_value : Value → Bool
is_value value.Default = true
is_value (value.Int n) = fits_64_bits n
is_value (value.Real word) = is_real word
is_value (value.Text text) = is_in_line text && nat_lt (length text) (2 ^ 64)
