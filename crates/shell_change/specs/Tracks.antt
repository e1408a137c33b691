-- Where edges lie: their curves, and the places of their ends.
use Rattle.std.specs.Prelude.{ℕ, Bool, true, false, Option, Some, None, slice_get}
use Rattle.solid_data.specs.SolidData.{SolidData}
use Rattle.solid_data.specs.declared.solid.Edge.{Edge}
use Rattle.solid_data.specs.declared.solid.EdgeId.{EdgeId}
use Rattle.shell_change.specs.declared.change.Change.{Change}
use Rattle.shell_change.specs.declared.change.EdgeName.{EdgeName}
use Rattle.shell_change.specs.declared.change.EdgeName.TheVariants as edge
use Rattle.shell_change.specs.declared.change.NewEdge.{NewEdge}
use Rattle.shell_change.specs.declared.change.NewVertex.{NewVertex}
use Rattle.shell_change.specs.declared.change.VertexName.{VertexName}
use Rattle.shell_change.specs.declared.change.VertexName.TheVariants as vertex
use Rattle.shell_change.specs.declared.geometry.Geometry.{Geometry}
use Rattle.shell_change.specs.declared.tracks.Track.{Track}

-- A new vertex has the place of the old vertex that it is like.
abbrev pub place_of_new : Geometry → Option NewVertex → Option ℕ
place_of_new g None = None
place_of_new g (Some n) = slice_get g.places n.like.0

-- the place of a vertex that a changed shell names; None where there is no such vertex
abbrev pub place_named : Geometry → Change → VertexName → Option ℕ
place_named g c (vertex.Old v) = slice_get g.places v.0
place_named g c (vertex.New i) = place_of_new g (slice_get c.vertices i)

-- the curve of this old edge, from a place to a place
abbrev pub track_between : EdgeId → Option ℕ → Option ℕ → Option Track
track_between e None to = None
track_between e (Some p) None = None
track_between e (Some p) (Some q) = Some (record { curve = e; from = p; to = q })

-- where an old edge lies
abbrev pub track_of_old : Geometry → EdgeId → Option Edge → Option Track
track_of_old g e None = None
track_of_old g e (Some x) = track_between e (slice_get g.places x.from.0) (slice_get g.places x.to.0)

abbrev pub old_track : SolidData → Geometry → EdgeId → Option Track
old_track s g e = track_of_old g e (slice_get s.edges e.0)

-- where a new edge lies: it has the curve of the old edge that it is like, and vertices of its own
abbrev pub track_of_new : Geometry → Change → Option NewEdge → Option Track
track_of_new g c None = None
track_of_new g c (Some n) = track_between n.like (place_named g c n.from) (place_named g c n.to)

-- where an edge lies that a changed shell names; None where there is no such edge
abbrev pub named_track : SolidData → Geometry → Change → EdgeName → Option Track
named_track s g c (edge.Old e) = old_track s g e
named_track s g c (edge.New i) = track_of_new g c (slice_get c.edges i)

-- how a use runs on it: against the edge from its end to its start
abbrev pub track_run : Track → Bool → Track
track_run t true = t
track_run t false = record { curve = t.curve; from = t.to; to = t.from }

-- the place where a track ends, or where it starts
abbrev pub track_end : Track → Bool → ℕ
track_end t true = t.to
track_end t false = t.from

abbrev pub known_end : Option Track → Bool → Option ℕ
known_end None at_end = None
known_end (Some t) at_end = Some (track_end t at_end)
