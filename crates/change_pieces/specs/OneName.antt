-- Private: names of edges and of vertices, alike.
use Rattle.std.specs.Prelude.{ℕ, ◌+◌, ◌-◌, ◌==◌, Bool, false, List, Option, position, slice_get, if◌then◌else◌}
use Rattle.shell_change.specs.declared.change.EdgeName.{EdgeName}
use Rattle.shell_change.specs.declared.change.EdgeName.TheVariants as edge
use Rattle.shell_change.specs.declared.change.VertexName.{VertexName}
use Rattle.shell_change.specs.declared.change.VertexName.TheVariants as vertex
use Rattle.change_pieces.specs.declared.names.Name.{Name}
use Rattle.change_pieces.specs.declared.names.Name.TheVariants.{Old, New}

abbrev pub edge_name : EdgeName → Name
edge_name (edge.Old e) = Old e.0
edge_name (edge.New i) = New i

abbrev pub vertex_name : VertexName → Name
vertex_name (vertex.Old v) = Old v.0
vertex_name (vertex.New i) = New i

abbrev pub same_name : Name → Name → Bool
same_name (Old a) (Old b) = a == b
same_name (New a) (New b) = a == b
same_name (Old a) (New b) = false
same_name (New a) (Old b) = false

-- where a name stands first
abbrev pub place_among : List Name → Name → Option ℕ
place_among names name = position (same_name name) names

-- the slot of a name: old ones from the least on, new ones behind them
abbrev pub slot_of : ℕ → ℕ → Name → ℕ
slot_of least old (Old n) = n - least
slot_of least old (New i) = old + i

-- the place of a name, by its slot or by the list of names
abbrev pub place_by : Bool → ℕ → ℕ → List ℕ → List Name → Name → Option ℕ
place_by near least old slots names name = if near then slice_get slots (slot_of least old name) else place_among names name
