-- What may not be cut: the parts of which lines are filled.
use Rattle.std.specs.Prelude.{ℕ, nat_le, List, [], ◌∷◌, ◌++◌, length, map, take, drop, if◌then◌else◌}
use Rattle.std.specs.Fmt.{decimal}
use Rattle.iges_fields.specs.declared.value.Value.{Value}
use Rattle.iges_fields.specs.declared.value.Value.TheVariants as value
use Rattle.iges_fields.specs.Delims.{Delims}
use Rattle.iges_fields.specs.Spelled.{spelling}

-- each byte is a part
abbrev pub single_parts : List ℕ → List (List ℕ)
single_parts bytes = map (λ b. b ∷ []) bytes

-- A word that fits a line of n columns is one part. Of a longer one the first full line is one part, and each byte after it is one.
abbrev pub word_parts : ℕ → List ℕ → List (List ℕ)
word_parts n word = if nat_le (length word) n then word ∷ [] else take n word ∷ single_parts (drop n word)

-- A value and the delimiter after it are one word, but of a text that is only the length with H.
abbrev pub value_parts : ℕ → Value → ℕ → List (List ℕ)
value_parts n (value.Text text) delimiter = word_parts n (decimal (length text) ++ 72 ∷ []) ++ single_parts (text ++ delimiter ∷ [])
value_parts n v delimiter = word_parts n (spelling v ++ delimiter ∷ [])

-- values parted by the parameter delimiter and ended by the record delimiter
abbrev pub parts : ℕ → Delims → List Value → List (List ℕ)
parts n d [] = []
parts n d (v ∷ []) = value_parts n v d.end
parts n d (v ∷ next ∷ values) = value_parts n v d.param ++ parts n d (next ∷ values)
