-- One shell in two solids, which number its edges and vertices otherwise.
use Rattle.std.specs.Prelude.{◌≡◌, ℕ, ◌<◌, length, map, Contains, Some, slice_get}
use Rattle.std.specs.List.{AllZip}
use Rattle.solid_data.specs.SolidData.{SolidData, shell_edges, shell_vertices}
use Rattle.solid_data.specs.declared.solid.Edge.{Edge}
use Rattle.solid_data.specs.declared.solid.LoopUse.{LoopUse}
use Rattle.solid_data.specs.declared.solid.LoopUse.TheVariants.{EdgeUse, VertexUse}
use Rattle.solid_data.specs.declared.solid.Loop.{Loop}
use Rattle.solid_data.specs.declared.solid.FaceUse.{FaceUse}
use Rattle.solid_data.specs.declared.solid.Shell.{Shell}
use Rattle.shell_rules.specs.Closed.{IsClosedShell}

-- the other number of each edge and of each vertex
pub record Renumbering : Type 0 where
  pub edge : ℕ → ℕ
  pub vertex : ℕ → ℕ

abbrev pub renumbered_use : Renumbering → LoopUse → LoopUse
renumbered_use r (EdgeUse edge along) = EdgeUse (record { 0 = r.edge edge.0 }) along
renumbered_use r (VertexUse vertex) = VertexUse (record { 0 = r.vertex vertex.0 })

abbrev pub IsRenumberedLoop : Renumbering → Loop → Loop → Type 0
IsRenumberedLoop r a b = b.uses ≡ map (renumbered_use r) a.uses

pub record IsRenumberedFace (r : Renumbering) (a b : FaceUse) : Type 0 where
  pub flag : a.flag ≡ b.flag
  pub loops : AllZip (IsRenumberedLoop r) a.loops b.loops

pub record IsRenumberedEdge (r : Renumbering) (a b : Edge) : Type 0 where
  pub from : b.from.0 ≡ r.vertex a.from.0
  pub to : b.to.0 ≡ r.vertex a.to.0

-- b has the faces of a, in their order, with the other numbers.
pub record IsRenumberedShell (r : Renumbering) (a b : Shell) : Type 0 where
  pub flag : a.flag ≡ b.flag
  pub faces : AllZip (IsRenumberedFace r) a.faces b.faces

-- The shell a of s is the shell b of t: each edge of a is there in both, and each vertex, no two of a become one in b.
pub record IsRenumbered (r : Renumbering) (s t : SolidData) (a b : Shell) : Type 0 where
  pub shell : IsRenumberedShell r a b
  pub edges : (e : ℕ) → Contains (shell_edges a) e → (x y : Edge) × (slice_get s.edges e ≡ Some x) × (slice_get t.edges (r.edge e) ≡ Some y)
      × IsRenumberedEdge r x y
  pub vertices : (v : ℕ) → Contains (shell_vertices s a) v → (v < length s.vertices) × (r.vertex v < length t.vertices)
  pub edges_apart : (d e : ℕ) → Contains (shell_edges a) d → Contains (shell_edges a) e → r.edge d ≡ r.edge e → d ≡ e
  pub vertices_apart : (v w : ℕ) → Contains (shell_vertices s a) v → Contains (shell_vertices s a) w → r.vertex v ≡ r.vertex w → v ≡ w

-- Where the shell b of t is closed, so is a, as the first shell of s.
abbrev pub RenumberedStaysClosed : Type 0
RenumberedStaysClosed = (r : Renumbering) (s t : SolidData) (k : ℕ) (a b : Shell) → IsRenumbered r s t a b → IsClosedShell t k b → IsClosedShell s 0 a
