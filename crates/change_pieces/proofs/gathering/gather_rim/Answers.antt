use Rattle.std.proofs.Common.{refl, sym}
use Rattle.change_pieces.specs.Pieces.{face_on}
use Rattle.change_pieces.proofs.GatherSteps.{gathered_more}
use Rattle.change_pieces.proofs.gathering.gather_rim.Goals as goal

pub returns : goal.returns
returns c = λ t seen g.
    gathered_more c.args.vertices.now c.args.edges.now c.args.shells.now seen c.args.counts.now c.count_one.new.counts (face_on c.args.flag c.args.rim.now) c.in-Some.face.now
    (sym c.in-Some.ensures) (c.if-not-is_rim_face.ensures c.args.vertices.now refl) (c.count_one.ensures.inside t) (c.count_one.ensures.counts t) g
