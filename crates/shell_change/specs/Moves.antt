-- Moves: ways from a place to another, by corresponding ends of seams of equal curves.
use Rattle.std.specs.Prelude.{ℕ, ◌==◌, ◌&&◌, Bool, true, false, IsTrue, nat_lt, Option, Some, None, slice_get, if◌then◌else◌}
use Rattle.solid_data.specs.SolidData.{SolidData}
use Rattle.shell_change.specs.declared.change.Change.{Change}
use Rattle.shell_change.specs.declared.change.Move.{Move}
use Rattle.shell_change.specs.declared.change.Seam.{Seam}
use Rattle.shell_change.specs.declared.change.Told.{Told}
use Rattle.shell_change.specs.declared.change.Told.TheVariants.{Sure, Places, Curve}
use Rattle.shell_change.specs.declared.geometry.CurveKnown.{CurveKnown}
use Rattle.shell_change.specs.declared.geometry.Geometry.{Geometry}
use Rattle.shell_change.specs.declared.moves.Step.{Step}
use Rattle.shell_change.specs.declared.tracks.Track.{Track}
use Rattle.shell_change.specs.Tracks.{old_track, track_run, track_end}

-- from an end of one edge to the corresponding end of the other: its start to its start, but of two lines whose records aren't equal its start to its end
abbrev pub step_across : Track → Track → CurveKnown → CurveKnown → Bool → Step
step_across a b p q at_end = record { from = track_end a at_end; to = track_end (track_run b (p.record == q.record)) at_end }

abbrev pub step_back : Step → Bool → Step
step_back t true = record { from = t.to; to = t.from }
step_back t false = t

-- Only seams of equal curves between other places have steps.
abbrev pub step_known : Told → Option Track → Option Track → Option CurveKnown → Option CurveKnown → Bool → Option Step
step_known Sure a b p q at_end = None
step_known Places a b p q at_end = None
step_known Curve (Some a) (Some b) (Some p) (Some q) at_end = Some (step_across a b p q at_end)
step_known Curve (Some a) (Some b) (Some p) None at_end = None
step_known Curve (Some a) (Some b) None q at_end = None
step_known Curve (Some a) None p q at_end = None
step_known Curve None b p q at_end = None

abbrev pub step_of_seam : SolidData → Geometry → Option Seam → Bool → Option Step
step_of_seam s g None at_end = None
step_of_seam s g (Some x) at_end =
    step_known x.told (old_track s g x.left) (old_track s g x.taken) (slice_get g.curves x.left.0) (slice_get g.curves x.taken.0) at_end

-- where the last step of a move begins: where the move does, or where an earlier move from there has come to
abbrev pub reached : ℕ → ℕ → ℕ → Option Move → Option ℕ
reached i j from None = None
reached i j from (Some m) = if nat_lt j i && (m.from == from) then Some m.to else None

abbrev pub last_begin : Change → ℕ → ℕ → Option ℕ → Option ℕ
last_begin c i from None = Some from
last_begin c i from (Some j) = reached i j from (slice_get c.moves j)

abbrev pub is_last_step : Option ℕ → ℕ → Option Step → Bool → Bool
is_last_step (Some from) to (Some t) back = ((step_back t back).from == from) && ((step_back t back).to == to)
is_last_step (Some from) to None back = false
is_last_step None to t back = false

-- Move i leads by its last step from where this begins to where the move ends.
abbrev pub MoveFits : SolidData → Geometry → Change → ℕ → Move → Type 0
MoveFits s g c i m = IsTrue (is_last_step (last_begin c i m.from m.after) m.to (step_of_seam s g (slice_get c.seams m.seam) m.at_end) m.back)
