use Rattle.std.specs.Prelude.{◌++◌}
use Rattle.std.proofs.Common.{sym, subst}
use Rattle.change_pieces.specs.Gathered.{AreGathered}
use Rattle.change_pieces.specs.Pieces.{kept_face}
use Rattle.change_pieces.proofs.gathering.gather_fate.Goals as goal

pub returns-in-Kept : goal.returns-in-Kept
returns-in-Kept c = λ t seen g.
    subst (λ f. AreGathered c.args.vertices.now c.args.edges.now c.args.shells.now (seen ++ kept_face f) c.gather_face.new.counts) (sym c.in-Kept.is)
    (c.gather_face.ensures t seen g)
