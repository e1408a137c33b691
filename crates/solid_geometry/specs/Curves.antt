-- The curves of edges, and lines.
use Rattle.std.specs.Prelude.{◌⊎◌, ℕ, ◌+◌, ◌-◌, ◌*◌, Bool, false, ◌&&◌, ℤ, pos, List, [], ◌∷◌, map, Some, None}
use Rattle.std.specs.List.{AllZip}
use Rattle.std.specs.Ordering.{int_eq}
use Rattle.iges_fields.specs.declared.value.Value.{Value}
use Rattle.iges_params.specs.Contents.{Contents}
use Rattle.iges_params.specs.Named.{named, values_of}
use Rattle.brep_lists.specs.Record.{int_at, value_or_default}
use Rattle.equal_values.specs.Equal.{AreEqualValues}
use Rattle.solid_data.specs.declared.solid.Edge.{Edge}

-- the entry of an edge's curve: after the count of its list there are five values for each edge, the curve first
unfoldable pub curve_of : Contents → Edge → ℤ
curve_of f edge = int_at (values_of f (pos edge.key.«list».0)) (5 * edge.key.index - 4)

abbrev pub curves_of : Contents → List Edge → List ℤ
curves_of f edges = map (curve_of f) edges

-- a line without a matrix
abbrev pub is_line : Contents → ℤ → Bool
is_line f z = elim (named f z) [ Some r ↦ int_eq r.0.kind (pos 110) && int_eq r.0.matrix (pos 0) | None ↦ false ]

-- the start point of a line, from value 0, and its end point, from value 3
unfoldable pub point : Contents → ℤ → ℕ → List Value
point f z at =
    value_or_default (values_of f z) at ∷ value_or_default (values_of f z) (at + 1) ∷ value_or_default (values_of f z) (at + 2) ∷ []

abbrev pub AreAtOnePoint : Contents → ℤ → ℕ → ℤ → ℕ → Type 0
AreAtOnePoint f y at z to = AllZip AreEqualValues (point f y at) (point f z to)

-- two lines have the same two points, in either order
abbrev pub HaveSamePoints : Contents → ℤ → ℤ → Type 0
HaveSamePoints f y z =
    (AreAtOnePoint f y 0 z 0 × AreAtOnePoint f y 3 z 3) ⊎ (AreAtOnePoint f y 0 z 3 × AreAtOnePoint f y 3 z 0)
