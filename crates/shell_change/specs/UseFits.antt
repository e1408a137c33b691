-- What a use of a loop may be after the change.
use Rattle.std.specs.Prelude.{ℕ, ◌==◌, ◌&&◌, ◌||◌, Bool, true, false, not, IsTrue, Option, Some, None, slice_get}
use Rattle.solid_data.specs.SolidData.{SolidData, same_flag}
use Rattle.solid_data.specs.declared.solid.LoopUse.{LoopUse}
use Rattle.solid_data.specs.declared.solid.LoopUse.TheVariants.{EdgeUse, VertexUse}
use Rattle.shell_change.specs.declared.change.Change.{Change}
use Rattle.shell_change.specs.declared.change.EdgeNow.{EdgeNow}
use Rattle.shell_change.specs.declared.change.Move.{Move}
use Rattle.shell_change.specs.declared.change.NewEdge.{NewEdge}
use Rattle.shell_change.specs.declared.change.Seam.{Seam}
use Rattle.shell_change.specs.declared.change.UseNow.{UseNow}
use Rattle.shell_change.specs.declared.change.UseNow.TheVariants.{OnEdge, AtVertex}
use Rattle.shell_change.specs.declared.geometry.CurveKnown.{CurveKnown}
use Rattle.shell_change.specs.declared.geometry.Geometry.{Geometry}
use Rattle.shell_change.specs.declared.tracks.Track.{Track}
use Rattle.shell_change.specs.Tracks.{old_track, named_track, place_named, track_run, known_end}

-- whether a move leads from p to q
abbrev pub leads : Option Move → ℕ → ℕ → Bool
leads None p q = false
leads (Some m) p q = (m.from == p) && (m.to == q)

-- An end that was at p is at q: it stays, or has moved by the move that is named.
abbrev pub end_goes : Change → Option ℕ → ℕ → ℕ → Bool
end_goes c None p q = p == q
end_goes c (Some i) p q = leads (slice_get c.moves i) p q

-- whether a seam leads from edge e to edge f
abbrev pub sews : Option Seam → ℕ → ℕ → Bool
sews None e f = false
sews (Some x) e f = (x.left.0 == e) && (x.taken.0 == f)

-- What ran on the curve of edge e runs on that of f: on its own, or by the seam that is named.
abbrev pub curve_goes : Change → Option ℕ → ℕ → ℕ → Bool
curve_goes c None e f = e == f
curve_goes c (Some i) e f = sews (slice_get c.seams i) e f

abbrev pub equal_records : Option CurveKnown → Option CurveKnown → Bool
equal_records (Some p) (Some q) = p.record == q.record
equal_records (Some p) None = false
equal_records None q = false

-- whether two old edges have one curve, or equal ones
abbrev pub same_curve : Geometry → ℕ → ℕ → Bool
same_curve g e f = (e == f) || equal_records (slice_get g.curves e) (slice_get g.curves f)

-- whether places don't tell in which direction it runs
abbrev pub at_one_place : Track → Bool
at_one_place t = t.from == t.to

-- Where places don't tell the direction, the flag does. On an equal curve it stays; on another it changes where the use is told as turned, and only there.
abbrev pub flag_goes : Bool → Bool → Bool → Bool
flag_goes true stays turned = stays && not turned
flag_goes false stays turned = same_flag stays (not turned)

-- A use that ran as a, with this flag, runs as b now.
pub record EdgeUseFits (g : Geometry) (c : Change) (a b : Track) (along : Bool) (u : EdgeNow) : Type 0 where
  pub curve : IsTrue (curve_goes c u.seam a.curve.0 b.curve.0)
  -- It runs as it did, or the other way if it is turned.
  pub start : IsTrue (end_goes c u.start_by (track_run a (not u.turned)).from b.from)
  pub «end» : IsTrue (end_goes c u.end_by (track_run a (not u.turned)).to b.to)
  pub flag : IsTrue (at_one_place a || at_one_place b) → IsTrue (flag_goes (same_curve g a.curve.0 b.curve.0) (same_flag along u.along) u.turned)

-- the same where both edges lie somewhere
abbrev pub EdgeKnownFits : Geometry → Change → Option Track → Option Track → Bool → EdgeNow → Type 0
EdgeKnownFits g c (Some t) (Some n) along u = EdgeUseFits g c (track_run t along) (track_run n u.along) along u
EdgeKnownFits g c (Some t) None along u = ⊥
EdgeKnownFits g c None n along u = ⊥

abbrev pub end_known : Change → Option ℕ → Option ℕ → Option ℕ → Bool
end_known c by (Some p) (Some q) = end_goes c by p q
end_known c by (Some p) None = false
end_known c by None q = false

-- A use of an edge stays one, and so does a use of a vertex, which stays at its place or has moved.
abbrev pub UseFits : SolidData → Geometry → Change → LoopUse → UseNow → Type 0
UseFits s g c (EdgeUse e along) (OnEdge u) = EdgeKnownFits g c (old_track s g e) (named_track s g c u.edge) along u
UseFits s g c (EdgeUse e along) (AtVertex w by) = ⊥
UseFits s g c (VertexUse v) (OnEdge u) = ⊥
UseFits s g c (VertexUse v) (AtVertex w by) = IsTrue (end_known c by (slice_get g.places v.0) (place_named g c w))

-- A new edge lies where the old edge does that it is like, but for ends that have moved.
pub record NewEdgeFits (s : SolidData) (g : Geometry) (c : Change) (n : NewEdge) : Type 0 where
  pub from : IsTrue (end_known c n.from_by (known_end (old_track s g n.like) false) (place_named g c n.from))
  pub to : IsTrue (end_known c n.to_by (known_end (old_track s g n.like) true) (place_named g c n.to))
