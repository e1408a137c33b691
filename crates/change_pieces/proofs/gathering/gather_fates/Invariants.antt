use Rattle.std.specs.Prelude.{◌++◌, List, drop}
use Rattle.shell_change.specs.declared.change.FaceNow.{FaceNow}
use Rattle.change_pieces.specs.Gathered.{AreGathered}
use Rattle.change_pieces.specs.Pieces.{kept_faces}
use Rattle.change_pieces.proofs.GatherSteps.{IsLeft}
use Rattle.change_pieces.proofs.gathering.gather_fates.Given as goal

abbrev pub invariant-fates : goal.invariant-fates
invariant-fates l = (seen : List FaceNow) → AreGathered l.vertices l.edges l.shells seen l.fn.counts
    → IsLeft l.vertices l.edges l.shells (kept_faces (drop l.i l.fates)) (seen ++ kept_faces l.fates) l.counts
