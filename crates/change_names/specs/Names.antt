-- The edges and the vertices that a change names: old ones are the shell's.
use Rattle.std.specs.Prelude.{ℕ, ◌++◌, List, [], flat_map, Contains, slice_get, ⊤}
use Rattle.solid_data.specs.SolidData.{SolidData}
use Rattle.edge_uses.specs.ShellRows.{ShellRows, rows_of}
use Rattle.shell_change.specs.Matching.{EachAt}
use Rattle.shell_change.specs.declared.change.Change.{Change}
use Rattle.shell_change.specs.declared.change.EdgeName.{EdgeName}
use Rattle.shell_change.specs.declared.change.EdgeName.TheVariants as edge
use Rattle.shell_change.specs.declared.change.Fate.{Fate}
use Rattle.shell_change.specs.declared.change.Fate.TheVariants.{Removed, Kept}
use Rattle.shell_change.specs.declared.change.LoopNow.{LoopNow}
use Rattle.shell_change.specs.declared.change.NewEdge.{NewEdge}
use Rattle.shell_change.specs.declared.change.NewVertex.{NewVertex}
use Rattle.shell_change.specs.declared.change.Seam.{Seam}
use Rattle.shell_change.specs.declared.change.UseNow.{UseNow}
use Rattle.shell_change.specs.declared.change.UseNow.TheVariants.{OnEdge, AtVertex}
use Rattle.shell_change.specs.declared.change.VertexName.{VertexName}
use Rattle.shell_change.specs.declared.change.VertexName.TheVariants as vertex

abbrev pub loop_after : LoopNow → List UseNow
loop_after l = l.uses

-- the uses of a face that is kept, as they are then
abbrev pub face_after : Fate → List UseNow
face_after Removed = []
face_after (Kept f) = flat_map loop_after f.loops

-- the uses of all faces that are kept
abbrev pub uses_after : List Fate → List UseNow
uses_after fates = flat_map face_after fates

-- an old edge of these rows, or a new one
abbrev pub EdgeIsOwn : ShellRows → EdgeName → Type 0
EdgeIsOwn d (edge.Old e) = Contains d.edges e.0
EdgeIsOwn d (edge.New i) = ⊤

abbrev pub VertexIsOwn : ShellRows → VertexName → Type 0
VertexIsOwn d (vertex.Old v) = Contains d.vertices v.0
VertexIsOwn d (vertex.New i) = ⊤

abbrev pub UseIsOwn : ShellRows → UseNow → Type 0
UseIsOwn d (OnEdge u) = EdgeIsOwn d u.edge
UseIsOwn d (AtVertex v by) = VertexIsOwn d v

-- A new edge has the curve of an edge of these rows, and ends of its own.
pub record NewEdgeIsOwn (d : ShellRows) (n : NewEdge) : Type 0 where
  pub like : Contains d.edges n.like.0
  pub from : VertexIsOwn d n.from
  pub to : VertexIsOwn d n.to

pub record SeamIsOwn (d : ShellRows) (x : Seam) : Type 0 where
  pub left : Contains d.edges x.left.0
  pub taken : Contains d.edges x.taken.0

-- Each old edge and each old vertex that a change names is one of these rows.
pub record NamesOwnOf (d : ShellRows) (c : Change) : Type 0 where
  pub uses : EachAt (λ _ u. UseIsOwn d u) (uses_after c.faces)
  pub edges : EachAt (λ _ n. NewEdgeIsOwn d n) c.edges
  pub vertices : EachAt (λ _ (n : NewVertex). Contains d.vertices n.like.0) c.vertices
  pub seams : EachAt (λ _ x. SeamIsOwn d x) c.seams

-- They are the shell's.
abbrev pub NamesOwn : SolidData → Change → Type 0
NamesOwn s c = NamesOwnOf (rows_of s (slice_get s.shells c.shell.0)) c
