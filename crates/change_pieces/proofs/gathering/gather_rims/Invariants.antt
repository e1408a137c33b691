use Rattle.std.specs.Prelude.{◌++◌, List, drop, map}
use Rattle.shell_change.specs.declared.change.FaceNow.{FaceNow}
use Rattle.change_pieces.specs.Gathered.{AreGathered}
use Rattle.change_pieces.specs.Pieces.{face_on}
use Rattle.change_pieces.proofs.GatherSteps.{IsLeft}
use Rattle.change_pieces.proofs.gathering.gather_rims.Given as goal

abbrev pub invariant-rims : goal.invariant-rims
invariant-rims l = (seen : List FaceNow) → AreGathered l.vertices l.edges l.shells seen l.fn.counts
    → IsLeft l.vertices l.edges l.shells (map (face_on l.flag) (drop l.i l.rims)) (seen ++ map (face_on l.flag) l.rims) l.counts
