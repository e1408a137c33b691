-- The new edges and the new vertices of a change: each is named by a use.
use Rattle.std.specs.Prelude.{ℕ, ◌<◌, ◌++◌, List, [], ◌∷◌, length, filter_map, flat_map, Contains, Option, Some, None}
use Rattle.std.specs.Option.{option_to_list}
use Rattle.shell_change.specs.declared.change.Change.{Change}
use Rattle.shell_change.specs.declared.change.EdgeName.{EdgeName}
use Rattle.shell_change.specs.declared.change.EdgeName.TheVariants as edge
use Rattle.shell_change.specs.declared.change.NewEdge.{NewEdge}
use Rattle.shell_change.specs.declared.change.UseNow.{UseNow}
use Rattle.shell_change.specs.declared.change.UseNow.TheVariants.{OnEdge, AtVertex}
use Rattle.shell_change.specs.declared.change.VertexName.{VertexName}
use Rattle.shell_change.specs.declared.change.VertexName.TheVariants as vertex
use Rattle.change_names.specs.Names.{uses_after}

abbrev pub new_edge : EdgeName → Option ℕ
new_edge (edge.Old e) = None
new_edge (edge.New i) = Some i

abbrev pub new_vertex : VertexName → Option ℕ
new_vertex (vertex.Old v) = None
new_vertex (vertex.New i) = Some i

abbrev pub new_edge_of : UseNow → Option ℕ
new_edge_of (OnEdge u) = new_edge u.edge
new_edge_of (AtVertex v by) = None

abbrev pub new_vertex_of : UseNow → Option ℕ
new_vertex_of (OnEdge u) = None
new_vertex_of (AtVertex v by) = new_vertex v

-- the new ends of a new edge
abbrev pub new_ends : NewEdge → List ℕ
new_ends n = option_to_list (new_vertex n.from) ++ option_to_list (new_vertex n.to)

-- the new edges that uses name, and the new vertices that they or new edges name
abbrev pub new_edges_named : List UseNow → List ℕ
new_edges_named uses = filter_map new_edge_of uses

abbrev pub new_vertices_named : List UseNow → List NewEdge → List ℕ
new_vertices_named uses edges = filter_map new_vertex_of uses ++ flat_map new_ends edges

-- each number below n is there
pub record Covers (numbers : List ℕ) (n : ℕ) : Type 0 where
  pub each : (k : ℕ) → k < n → Contains numbers k

-- Each new edge is named by one of these uses, and each new vertex by one of them or by a new edge.
pub record NamesNewIn (uses : List UseNow) (c : Change) : Type 0 where
  pub edges : Covers (new_edges_named uses) (length c.edges)
  pub vertices : Covers (new_vertices_named uses c.edges) (length c.vertices)

abbrev pub NamesNew : Change → Type 0
NamesNew c = NamesNewIn (uses_after c.faces) c
