-- Seams: pairs of old edges that are sewn together, and how they are equal.
use Rattle.std.specs.Prelude.{◌≡◌, ℕ, ◌==◌, ◌&&◌, ◌||◌, Bool, true, false, not, Option, Some, None, slice_get, if◌then◌else◌}
use Rattle.solid_data.specs.SolidData.{SolidData}
use Rattle.shell_change.specs.declared.change.Seam.{Seam}
use Rattle.shell_change.specs.declared.change.Told.{Told}
use Rattle.shell_change.specs.declared.change.Told.TheVariants.{Sure, Places, Curve}
use Rattle.shell_change.specs.declared.geometry.CurveKnown.{CurveKnown}
use Rattle.shell_change.specs.declared.geometry.Geometry.{Geometry}
use Rattle.shell_change.specs.declared.tracks.Track.{Track}
use Rattle.shell_change.specs.Tracks.{old_track}

-- from one start to one end
abbrev pub same_ends : Track → Track → Bool
same_ends a b = (a.from == b.from) && (a.to == b.to)

abbrev pub opposite_ends : Track → Track → Bool
opposite_ends a b = (a.from == b.to) && (a.to == b.from)

abbrev pub both_lines : Option ℕ → Option ℕ → Bool
both_lines (Some m) (Some n) = true
both_lines (Some m) None = false
both_lines None n = false

-- two lines with the same two points
abbrev pub same_line : Option ℕ → Option ℕ → Bool
same_line (Some m) (Some n) = m == n
same_line (Some m) None = false
same_line None n = false

-- Of edges between the same two places: lines between two places, or equal curves with one start and one end.
abbrev pub is_sure : Track → Track → CurveKnown → CurveKnown → Bool
is_sure a b p q = (not (a.from == a.to) && both_lines p.line q.line) || (same_ends a b && (p.record == q.record))

-- how two edges are equal, the surest first; None where they aren't
abbrev pub how_equal : Track → Track → CurveKnown → CurveKnown → Option Told
how_equal a b p q =
    if same_ends a b || opposite_ends a b
    then (if is_sure a b p q then Some Sure else Some Places)
    else (if (p.record == q.record) || same_line p.line q.line then Some Curve else None)

abbrev pub how_known : Option Track → Option Track → Option CurveKnown → Option CurveKnown → Option Told
how_known (Some a) (Some b) (Some p) (Some q) = how_equal a b p q
how_known (Some a) (Some b) (Some p) None = None
how_known (Some a) (Some b) None q = None
how_known (Some a) None p q = None
how_known None b p q = None

-- how the edges of a seam are equal
abbrev pub seam_equal : SolidData → Geometry → Seam → Option Told
seam_equal s g x = how_known (old_track s g x.left) (old_track s g x.taken) (slice_get g.curves x.left.0) (slice_get g.curves x.taken.0)

-- A seam is of two edges, and is told as they are equal.
pub record SeamFits (s : SolidData) (g : Geometry) (x : Seam) : Type 0 where
  pub two : ¬ (x.left.0 ≡ x.taken.0)
  pub told : seam_equal s g x ≡ Some x.told
