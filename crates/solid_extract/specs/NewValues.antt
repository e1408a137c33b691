-- Private: the values of a kept record.
use Rattle.std.specs.Prelude.{◌≡◌, ℕ, zero, suc, ◌+◌, ◌<◌, ◌==◌, Bool, false, true, not, ℤ, pos, List, [], ◌∷◌, ◌++◌, length, map, set, if◌then◌else◌, slice_index_or}
use Rattle.iges_fields.specs.declared.value.Value.{Value}
use Rattle.iges_fields.specs.declared.value.Value.TheVariants as value
use Rattle.std.specs.List.{enumerate_from}
use Rattle.entry_references.specs.EntrySets.{is_among}
use Rattle.entry_references.specs.Layout.{Own}
use Rattle.solid_extract.specs.Extracted.{new_value, renamed}

-- a mark for each of so many places, from 1, says whether it is among them
pub record AreMarkedPlaces (marks : List Bool) (places : List ℕ) (count : ℕ) : Type 0 where
  pub long : length marks ≡ count
  pub marked : (i : ℕ) → i < count → slice_index_or marks i false ≡ is_among places (i + 1)

-- whether the place, from 1, is there and isn't marked
abbrev pub is_open : List Bool → ℕ → Bool
is_open marks zero = false
is_open marks (suc k) = not (slice_index_or marks k true)

abbrev pub with_mark : List Bool → ℕ → List Bool
with_mark marks zero = marks
with_mark marks (suc k) = set marks k true

-- a pointer is renamed, and one that isn't followed becomes 0
abbrev pub value_as : List ℕ → Bool → Bool → Value → Value
value_as kept is_pointer is_cut (value.Int n) = value.Int (if is_pointer then renamed kept n else (if is_cut then pos 0 else n))
value_as kept is_pointer is_cut v = v

abbrev pub with_pointer : Own → ℕ → Own
with_pointer own place = record { count = own.count; pointers = own.pointers ++ place ∷ []; cut = own.cut }

abbrev pub with_cut : Own → ℕ → Own
with_cut own place = record { count = own.count; pointers = own.pointers; cut = own.cut ++ place ∷ [] }

-- the values as they are kept, and marks of the pointers among them
pub record AreRenewed (kept : List ℕ) (own : Own) (olds : List Value) (marks : List Bool) (values : List Value) : Type 0 where
  pub marked : AreMarkedPlaces marks own.pointers (length olds)
  pub are : values ≡ map (λ (v : ℕ × Value). new_value kept own v.0 v.1) (enumerate_from 1 olds)

abbrev pub new_numbers : List ℕ → List ℤ → List Value
new_numbers kept zs = map (λ z. value.Int (renamed kept z)) zs

-- a group of none and one of these names, where there are any
abbrev pub names_behind : List Value → List Value
names_behind names = if length names == 0 then [] else value.Int (pos 0) ∷ value.Int (pos (length names)) ∷ names
