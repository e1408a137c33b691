-- How a value is spelled.
use Rattle.std.specs.Prelude.{ℕ, List, [], ◌∷◌, ◌++◌, length}
use Rattle.std.specs.Fmt.{decimal, signed_decimal}
use Rattle.iges_fields.specs.FreeText.{hollerith_h}
use Rattle.iges_fields.specs.declared.value.Value.{Value}
use Rattle.iges_fields.specs.declared.value.Value.TheVariants as value

-- nothing; plain decimal; the word as it is kept; or the length, H and the bytes
abbrev pub spelling : Value → List ℕ
spelling value.Default = []
spelling (value.Int n) = signed_decimal n
spelling (value.Real word) = word
spelling (value.Text text) = decimal (length text) ++ hollerith_h ∷ text
