-- Names of edges and of vertices, as numbers that stand for them.
use Rattle.std.specs.Prelude.{◌≡◌, ℕ, List, Option, Some, None, slice_get}
use Rattle.solid_data.specs.SolidData.{SolidData}
use Rattle.solid_data.specs.declared.solid.Edge.{Edge}
use Rattle.solid_data.specs.declared.solid.LoopUse.{LoopUse}
use Rattle.solid_data.specs.declared.solid.LoopUse.TheVariants.{EdgeUse, VertexUse}
use Rattle.shell_change.specs.declared.change.Change.{Change}
use Rattle.shell_change.specs.declared.change.EdgeName.{EdgeName}
use Rattle.shell_change.specs.declared.change.EdgeName.TheVariants as edge
use Rattle.shell_change.specs.declared.change.NewEdge.{NewEdge}
use Rattle.shell_change.specs.declared.change.UseNow.{UseNow}
use Rattle.shell_change.specs.declared.change.UseNow.TheVariants.{OnEdge, AtVertex}
use Rattle.shell_change.specs.declared.change.VertexName.{VertexName}
use Rattle.shell_change.specs.declared.change.VertexName.TheVariants as vertex
use Rattle.change_pieces.specs.declared.ends.NamedEnds.{NamedEnds}

-- Each number stands for the name at its place. No name stands twice.
pub record StandOnce {A : Type 0} (names : List A) : Type 0 where
  pub once : (i j : ℕ) (name : A) → slice_get names i ≡ Some name → slice_get names j ≡ Some name → i ≡ j

-- A use by numbers is the use that is named: of the edge, in the same direction, or of the vertex.
abbrev pub IsUse : List VertexName → List EdgeName → UseNow → LoopUse → Type 0
IsUse vs es (OnEdge u) (EdgeUse e along) = (slice_get es e.0 ≡ Some u.edge) × (along ≡ u.along)
IsUse vs es (OnEdge u) (VertexUse w) = ⊥
IsUse vs es (AtVertex v by) (EdgeUse e along) = ⊥
IsUse vs es (AtVertex v by) (VertexUse w) = slice_get vs w.0 ≡ Some v

-- the vertices at which an edge starts and ends
abbrev pub old_ends : Option Edge → Option NamedEnds
old_ends None = None
old_ends (Some e) = Some (record { from = vertex.Old e.from; to = vertex.Old e.to })

abbrev pub new_ends : Option NewEdge → Option NamedEnds
new_ends None = None
new_ends (Some n) = Some (record { from = n.from; to = n.to })

-- Those of an old edge are those that it has in the solid; a new one has its own.
abbrev pub ends_named : SolidData → Change → EdgeName → Option NamedEnds
ends_named s c (edge.Old e) = old_ends (slice_get s.edges e.0)
ends_named s c (edge.New i) = new_ends (slice_get c.edges i)

abbrev pub HasEnds : List VertexName → Option NamedEnds → Edge → Type 0
HasEnds vs None e = ⊥
HasEnds vs (Some ends) e = (slice_get vs e.from.0 ≡ Some ends.from) × (slice_get vs e.to.0 ≡ Some ends.to)
