-- Keys of values, which can stand one behind the other.
use Rattle.std.specs.Prelude.{ℕ, List, [], ◌∷◌, flat_map}
use Rattle.iges_fields.specs.declared.value.Value.{Value}
use Rattle.equal_values.specs.Canonical.{canonical}

-- each byte behind a 1, and 0 at the end: a text may hold any byte
abbrev pub marked : List ℕ → List ℕ
marked [] = 0 ∷ []
marked (b ∷ bytes) = 1 ∷ b ∷ marked bytes

abbrev pub key_of : Value → List ℕ
key_of v = marked (canonical v)

abbrev pub keys_of : List Value → List ℕ
keys_of vs = flat_map key_of vs
