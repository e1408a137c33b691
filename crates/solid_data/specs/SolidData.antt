-- A solid as plain data, and what its shells use.
use Rattle.std.specs.Prelude.{ℕ, ◌==◌, ◌&&◌, Bool, true, false, not, List, [], ◌∷◌, map, flat_map, Option, Some, None, slice_get, if◌then◌else◌}
use Rattle.std.specs.List.{enumerate_from, list_any}
use Rattle.iges_base.specs.declared.entry_no.EntryNo.{EntryNo}
use Rattle.solid_data.specs.declared.solid.Edge.{Edge}
use Rattle.solid_data.specs.declared.solid.EdgeKey.{EdgeKey}
use Rattle.solid_data.specs.declared.solid.VertexKey.{VertexKey}
use Rattle.solid_data.specs.declared.solid.LoopAt.{LoopAt}
use Rattle.solid_data.specs.declared.solid.LoopUse.{LoopUse}
use Rattle.solid_data.specs.declared.solid.LoopUse.TheVariants.{EdgeUse, VertexUse}
use Rattle.solid_data.specs.declared.solid.Loop.{Loop}
use Rattle.solid_data.specs.declared.solid.FaceUse.{FaceUse}
use Rattle.solid_data.specs.declared.solid.Shell.{Shell}

pub record SolidData : Type 0 where
  pub entity : EntryNo
  pub shells : List Shell
  pub edges : List Edge
  pub vertices : List VertexKey

abbrev pub same_vertex : VertexKey → VertexKey → Bool
same_vertex a b = (a.list.0 == b.list.0) && (a.index == b.index)

abbrev pub same_edge : EdgeKey → EdgeKey → Bool
same_edge a b = (a.list.0 == b.list.0) && (a.index == b.index)

-- What an edge is in the file, and what a vertex is; list 0 and index 0 where the solid hasn't got it.
abbrev pub edge_name : Option Edge → EdgeKey
edge_name None = record { «list» = record { 0 = 0 }; index = 0 }
edge_name (Some e) = e.key

abbrev pub vertex_name : Option VertexKey → VertexKey
vertex_name None = record { «list» = record { 0 = 0 }; index = 0 }
vertex_name (Some key) = key

abbrev pub same_flag : Bool → Bool → Bool
same_flag true b = b
same_flag false b = not b

-- A loop of a shell, and where it is. It is walked forwards where the flags of its face and its shell are alike.
pub record PlacedLoop : Type 0 where
  pub at : LoopAt
  pub forwards : Bool
  pub loop : Loop

abbrev pub placed_in_face : Bool → ℕ × FaceUse → List PlacedLoop
placed_in_face shell_flag face =
    map (λ l. record { at = record { face = record { 0 = face.0 }; place = l.0 }; forwards = same_flag face.1.flag shell_flag; loop = l.1 })
    (enumerate_from 0 face.1.loops)

-- the loops of a shell, in order
abbrev pub placed_loops : Shell → List PlacedLoop
placed_loops shell = flat_map (placed_in_face shell.flag) (enumerate_from 0 shell.faces)

-- the uses of a shell, in order
abbrev pub shell_uses : Shell → List LoopUse
shell_uses shell = flat_map (λ (p : PlacedLoop). p.loop.uses) (placed_loops shell)

abbrev pub edge_used : LoopUse → List ℕ
edge_used (EdgeUse edge along) = edge.0 ∷ []
edge_used (VertexUse vertex) = []

abbrev pub ends_of : Option Edge → List ℕ
ends_of None = []
ends_of (Some e) = e.from.0 ∷ e.to.0 ∷ []

-- at an edge its start and its end
abbrev pub vertices_used : SolidData → LoopUse → List ℕ
vertices_used s (EdgeUse edge along) = ends_of (slice_get s.edges edge.0)
vertices_used s (VertexUse vertex) = vertex.0 ∷ []

-- the edges of a shell, and its vertices, as they appear
abbrev pub shell_edges : Shell → List ℕ
shell_edges shell = flat_map edge_used (shell_uses shell)

abbrev pub shell_vertices : SolidData → Shell → List ℕ
shell_vertices s shell = flat_map (vertices_used s) (shell_uses shell)

-- which of the numbers occur in the list, by rising number
abbrev pub occurring : List ℕ → List ℕ → List ℕ
occurring [] occur = []
occurring (n ∷ ns) occur = if list_any (λ m. m == n) occur then n ∷ occurring ns occur else occurring ns occur
