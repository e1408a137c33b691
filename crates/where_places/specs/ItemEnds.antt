-- Where an item of free text ends, by its value.
use Rattle.std.specs.Prelude.{ℕ, not, ◌==◌, List, [], ◌∷◌, length, drop}
use Rattle.std.specs.List.{prefix_len}
use Rattle.iges_fields.specs.declared.value.Value.{Value}
use Rattle.iges_fields.specs.declared.value.Value.TheVariants as value
use Rattle.iges_fields.specs.Delims.{Delims}
use Rattle.iges_fields.specs.FreeText.{hollerith_h, is_delimiter_of}

-- the text from its first delimiter on
unfoldable pub from_delimiter : Delims → List ℕ → List ℕ
from_delimiter d text = drop (prefix_len (λ b. not (is_delimiter_of d b)) text) text

-- the text from its first H on
unfoldable pub from_h : List ℕ → List ℕ
from_h text = drop (prefix_len (λ b. not (b == hollerith_h)) text) text

-- what comes behind the first H and so many bytes
abbrev pub behind_counted : ℕ → List ℕ → List ℕ
behind_counted count text = drop count (drop 1 (from_h text))

-- the text from the delimiter on that ends the item at its front, which has this value: only the bytes of a text may be delimiters
abbrev pub behind_item : Delims → Value → List ℕ → List ℕ
behind_item d value.Default text = from_delimiter d text
behind_item d (value.Int n) text = from_delimiter d text
behind_item d (value.Real word) text = from_delimiter d text
behind_item d (value.Text t) text = from_delimiter d (behind_counted (length t) text)

-- what comes behind the items of these values and their delimiters
abbrev pub behind_items : Delims → List Value → List ℕ → List ℕ
behind_items d [] text = text
behind_items d (v ∷ vs) text = behind_items d vs (drop 1 (behind_item d v text))
