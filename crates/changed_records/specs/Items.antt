-- What edges and vertices are in the changed file: old ones what they were, new ones items of new lists.
use Rattle.std.specs.Prelude.{ℕ, ◌+◌, List, [], ◌∷◌, slice_get}
use Rattle.iges_fields.specs.declared.value.Value.{Value}
use Rattle.solid_data.specs.SolidData.{SolidData, edge_name, vertex_name}
use Rattle.solid_data.specs.declared.solid.EdgeKey.{EdgeKey}
use Rattle.solid_data.specs.declared.solid.VertexKey.{VertexKey}
use Rattle.shell_change.specs.declared.change.EdgeName.{EdgeName}
use Rattle.shell_change.specs.declared.change.EdgeName.TheVariants as edge
use Rattle.shell_change.specs.declared.change.VertexName.{VertexName}
use Rattle.shell_change.specs.declared.change.VertexName.TheVariants as vertex
use Rattle.changed_records.specs.declared.named.Item.{Item}
use Rattle.changed_records.specs.declared.named.NewLists.{NewLists}
use Rattle.changed_records.specs.Values.{number_value}

abbrev pub vertex_key_item : VertexKey → Item
vertex_key_item key = record { «list» = key.list.0; index = key.index }

abbrev pub edge_key_item : EdgeKey → Item
edge_key_item key = record { «list» = key.list.0; index = key.index }

abbrev pub vertex_item : SolidData → NewLists → VertexName → Item
vertex_item s n (vertex.Old v) = vertex_key_item (vertex_name (slice_get s.vertices v.0))
vertex_item s n (vertex.New i) = record { «list» = n.vertices; index = i + 1 }

abbrev pub edge_item : SolidData → NewLists → EdgeName → Item
edge_item s n (edge.Old e) = edge_key_item (edge_name (slice_get s.edges e.0))
edge_item s n (edge.New i) = record { «list» = n.edges; index = i + 1 }

abbrev pub item_values : Item → List Value
item_values x = number_value x.list ∷ number_value x.index ∷ []
