-- Vertices whose coordinates are equal numbers.
use Rattle.std.specs.Prelude.{◌≡◌, ◌↔◌, ℕ, ◌+◌, ◌-◌, ◌*◌, pos, List, [], ◌∷◌, Some, slice_get}
use Rattle.std.specs.List.{AllZip}
use Rattle.iges_fields.specs.declared.value.Value.{Value}
use Rattle.iges_params.specs.Contents.{Contents}
use Rattle.iges_params.specs.Named.{values_of}
use Rattle.brep_lists.specs.Record.{value_or_default}
use Rattle.equal_values.specs.Equal.{AreEqualValues}
use Rattle.solid_data.specs.declared.solid.VertexKey.{VertexKey}

-- one of the three coordinates of a vertex, from 0: after the count of its list there are three values for each vertex
unfoldable pub coordinate : Contents → VertexKey → ℕ → Value
coordinate f key axis = value_or_default (values_of f (pos key.«list».0)) (3 * key.index + axis - 2)

-- the three
abbrev pub coordinates : Contents → VertexKey → List Value
coordinates f key = coordinate f key 0 ∷ coordinate f key 1 ∷ coordinate f key 2 ∷ []

-- the coordinates are equal, each to each
abbrev pub AreAtOnePlace : Contents → VertexKey → VertexKey → Type 0
AreAtOnePlace f a b = AllZip AreEqualValues (coordinates f a) (coordinates f b)

-- two of the vertices have the same number exactly if they are at one place
abbrev pub ArePlaces : Contents → List VertexKey → List ℕ → Type 0
ArePlaces f vertices places = (i j : ℕ) (a b : VertexKey) → slice_get vertices i ≡ Some a → slice_get vertices j ≡ Some b
    → (slice_get places i ≡ slice_get places j) ↔ AreAtOnePlace f a b
