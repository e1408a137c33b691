-- How the values of a record are spelled.
use Rattle.std.specs.Prelude.{◌≡◌, ℕ, ◌<◌, Bool, if◌then◌else◌, ℤ, pos, List, [], ◌∷◌, ◌⊎◌, ⊤}
use Rattle.iges_fields.specs.declared.value.Value.{Value}
use Rattle.iges_fields.specs.declared.value.Value.TheVariants.{Default, Int, Real, Text}

-- one value that is due
pub data DueValue : Type 0 where
  -- the number of an entry
  pointer : ℤ → DueValue
  -- an index
  number : ℤ → DueValue
  -- the integer 1 or 0
  flag : Bool → DueValue
  -- how many items follow, of which there is one at least
  at_least_one : ℕ → DueValue
  -- how many items follow, which may be left out where it is 0
  count : ℕ → DueValue
  -- a coordinate: a real, an integer or left out
  coordinate : Value → DueValue

abbrev pub IsCoordinate : Value → Type 0
IsCoordinate Default = ⊤
IsCoordinate (Int z) = ⊤
IsCoordinate (Real r) = ⊤
IsCoordinate (Text t) = ⊥

-- an integer or a left-out value
abbrev pub IsFiller : Value → Type 0
IsFiller Default = ⊤
IsFiller (Int z) = ⊤
IsFiller (Real r) = ⊥
IsFiller (Text t) = ⊥

abbrev pub Meets : DueValue → Value → Type 0
Meets (pointer z) v = v ≡ Int z
Meets (number z) v = v ≡ Int z
Meets (flag b) v = v ≡ Int (if b then pos 1 else pos 0)
Meets (at_least_one n) v = (v ≡ Int (pos n)) × (0 < n)
Meets (count n) v = (v ≡ Int (pos n)) ⊎ ((v ≡ Default) × (n ≡ 0))
Meets (coordinate w) v = (v ≡ w) × IsCoordinate w

-- nothing is due but a count of 0, which may be missing at the record's end
abbrev pub MayBeMissing : List DueValue → Type 0
MayBeMissing (count n ∷ []) = n ≡ 0
MayBeMissing _ = ⊥

-- the values are those due, followed only by integers and left-out values
abbrev pub MeetsAll : List DueValue → List Value → Type 0
MeetsAll [] [] = ⊤
MeetsAll [] (v ∷ vs) = IsFiller v × MeetsAll [] vs
MeetsAll (d ∷ ds) [] = MayBeMissing (d ∷ ds)
MeetsAll (d ∷ ds) (v ∷ vs) = Meets d v × MeetsAll ds vs
