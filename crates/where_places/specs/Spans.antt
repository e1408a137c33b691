-- Where a value stands in the text of a record.
use Rattle.std.specs.Prelude.{◌≡◌, ℕ, ◌+◌, ◌-◌, Bool, not, ◌||◌, List, ◌∷◌, [], ◌++◌, length, take, drop, Option, Some, None, IsTrue, flat_map, slice_get}
use Rattle.std.specs.List.{AllZip, prefix_len}
use Rattle.iges_base.specs.Word.{after_spaces, is_space, spaces}
use Rattle.iges_fields.specs.declared.value.Value.{Value}
use Rattle.iges_fields.specs.declared.value.Value.TheVariants as value
use Rattle.iges_fields.specs.Delims.{Delims}
use Rattle.iges_fields.specs.FreeText.{IsItem, Spells, begins_with, is_delimiter_of}
use Rattle.where_places.specs.declared.span.Span.{Span}
use Rattle.where_places.specs.ItemEnds.{behind_counted, behind_items, from_delimiter}

-- items, each with the parameter delimiter behind it
abbrev pub parted : Delims → List (List ℕ) → List ℕ
parted d items = flat_map (λ (item : List ℕ). item ++ d.param ∷ []) items

-- Before the span the text holds items of these values, each with the parameter delimiter behind it, and spaces. The span is a word that spells
-- the value; spaces and a delimiter follow.
pub record StandsAt (d : Delims) (text : List ℕ) (values : List Value) (v : Value) (s : Span) : Type 0 where
  pub items : List (List ℕ)
  pub each : AllZip IsItem items values
  pub before : ℕ
  pub word : List ℕ
  pub spells : Spells v word
  pub after : ℕ
  pub rest : List ℕ
  pub delimiter : IsTrue (begins_with (is_delimiter_of d) rest)
  pub parts : text ≡ parted d items ++ (spaces before ++ word ++ spaces after) ++ rest
  pub at_is : s.at ≡ length (parted d items) + before
  pub width_is : s.width ≡ length word

-- ---- how it is found

-- no space and no delimiter
abbrev pub is_of_word : Delims → ℕ → Bool
is_of_word d b = not (is_space b || is_delimiter_of d b)

-- how many bytes the word has at the front of a text, whose item has this value: only the bytes of a text may be spaces or delimiters
abbrev pub word_len : Delims → Value → List ℕ → ℕ
word_len d value.Default body = prefix_len (is_of_word d) body
word_len d (value.Int n) body = prefix_len (is_of_word d) body
word_len d (value.Real word) body = prefix_len (is_of_word d) body
word_len d (value.Text t) body = length body - length (behind_counted (length t) body)

-- the value at the front of what is left of a text
abbrev pub span_at : Delims → List ℕ → Value → List ℕ → Span
span_at d text v body = record { at = length text - length body; width = word_len d v body }

-- the last byte before what is left of a text
abbrev pub span_past : List ℕ → List ℕ → Span
span_past text rest = record { at = length text - length rest - 1; width = 0 }

abbrev pub span_in : Delims → List ℕ → Option Value → List ℕ → Span
span_in d text None rest = span_past text rest
span_in d text (Some v) rest = span_at d text v (after_spaces rest)

-- the k-th of these values, from 0, which come behind the item of a number
unfoldable pub value_span : Delims → List Value → ℕ → List ℕ → Span
value_span d vs k text = span_in d text (slice_get vs k) (behind_items d (take k vs) (drop 1 (from_delimiter d text)))
