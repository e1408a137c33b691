-- The values of the lists of new vertices and of new edges.
use Rattle.std.specs.Prelude.{ℕ, ◌+◌, ◌-◌, ◌*◌, pos, List, [], ◌∷◌, ◌++◌, length, take, drop, flat_map, slice_get}
use Rattle.iges_fields.specs.declared.value.Value.{Value}
use Rattle.iges_params.specs.Contents.{Contents}
use Rattle.iges_params.specs.Named.{values_of}
use Rattle.solid_data.specs.SolidData.{SolidData, edge_name, vertex_name}
use Rattle.shell_change.specs.declared.change.NewEdge.{NewEdge}
use Rattle.shell_change.specs.declared.change.NewVertex.{NewVertex}
use Rattle.changed_records.specs.declared.named.Item.{Item}
use Rattle.changed_records.specs.declared.named.NewLists.{NewLists}
use Rattle.changed_records.specs.Values.{number_value}
use Rattle.changed_records.specs.Items.{vertex_key_item, edge_key_item, vertex_item, item_values}

-- the coordinates of an item of a list of vertices, as they are spelled
abbrev pub coordinates : Contents → Item → List Value
coordinates f x = take 3 (drop (1 + 3 * (x.index - 1)) (values_of f (pos x.list)))

-- the pointer to the curve of an item of a list of edges
abbrev pub curve : Contents → Item → List Value
curve f x = take 1 (drop (1 + 5 * (x.index - 1)) (values_of f (pos x.list)))

-- the items that new ones are like
abbrev pub vertex_source : SolidData → NewVertex → Item
vertex_source s v = vertex_key_item (vertex_name (slice_get s.vertices v.like.0))

abbrev pub edge_source : SolidData → NewEdge → Item
edge_source s e = edge_key_item (edge_name (slice_get s.edges e.like.0))

abbrev pub new_vertex_values : Contents → SolidData → NewVertex → List Value
new_vertex_values f s v = coordinates f (vertex_source s v)

abbrev pub new_edge_values : Contents → SolidData → NewLists → NewEdge → List Value
new_edge_values f s n e = curve f (edge_source s e) ++ item_values (vertex_item s n e.from) ++ item_values (vertex_item s n e.to)

unfoldable pub vertex_list_values : Contents → SolidData → List NewVertex → List Value
vertex_list_values f s vs = number_value (length vs) ∷ flat_map (new_vertex_values f s) vs

unfoldable pub edge_list_values : Contents → SolidData → NewLists → List NewEdge → List Value
edge_list_values f s n es = number_value (length es) ∷ flat_map (new_edge_values f s n) es
