-- What canonical texts and keys say.
use Rattle.std.specs.Prelude.{◌≡◌, ◌↔◌, List}
use Rattle.std.specs.List.{AllZip}
use Rattle.iges_fields.specs.declared.value.Value.{Value}
use Rattle.equal_values.specs.Canonical.{canonical}
use Rattle.equal_values.specs.Equal.{AreEqualValues}
use Rattle.equal_values.specs.Keys.{keys_of}

-- two values are equal exactly if their canonical texts are the same
abbrev pub CanonicalTextsDecide : Type 0
CanonicalTextsDecide = (a b : Value) → (canonical a ≡ canonical b) ↔ AreEqualValues a b

-- two lists have the same keys exactly if they are as long, and the values at each place are equal
abbrev pub KeysDecide : Type 0
KeysDecide = (these those : List Value) → (keys_of these ≡ keys_of those) ↔ AllZip AreEqualValues these those
