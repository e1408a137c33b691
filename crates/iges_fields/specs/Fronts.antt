-- Private: a word at the front of a text.
use Rattle.std.specs.Prelude.{◌≡◌, ◌<◌, ℕ, true, List, length, take, get_or}
use Rattle.iges_fields.specs.declared.plain_word.PlainWord.{PlainWord}
use Rattle.iges_fields.specs.declared.plain_word.PlainWord.TheVariants as plain
use Rattle.iges_fields.specs.declared.value.Value.{Value}
use Rattle.iges_fields.specs.declared.value.Value.TheVariants as value
use Rattle.iges_fields.specs.Delims.{Delims}
use Rattle.iges_fields.specs.FreeText.{Spells, is_delimiter_of}

-- the value of a word
abbrev pub value_of : PlainWord → List ℕ → Value
value_of plain.Omitted word = value.Default
value_of (plain.Whole n) word = value.Int n
value_of plain.Real word = value.Real word

-- a word at the front of a body, and a delimiter behind it
pub record IsPlainFront (d : Delims) (body : List ℕ) (kind : PlainWord) (len : ℕ) : Type 0 where
  pub within : len < length body
  pub spells : Spells (value_of kind (take len body)) (take len body)
  pub stop : is_delimiter_of d (get_or body len 0) ≡ true
