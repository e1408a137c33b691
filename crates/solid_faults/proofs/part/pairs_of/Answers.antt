use Rattle.std.proofs.Common.{ap}
use Rattle.solid_faults.specs.PartPairs.{part_pair}
use Rattle.solid_faults.proofs.GapSteps.{mapped_step}
use Rattle.solid_faults.proofs.part.pairs_of.Goals as goal

pub rows-preserved : goal.rows-preserved
rows-preserved c =
    mapped_step (part_pair c.args.rows.now c.args.tally.now.span c.args.tally.now.seen) c.args.rows.now.rows c.row_at-row.result c.rows.i
    (c.row_at-row.result.at.face.0, c.other_face-other.result) c.rows.out.items c.push_pair.new.out.items _ c.row_at-row.ensures c.rows.invariant
    (ap (λ n. (c.row_at-row.result.at.face.0, n)) c.other_face-other.ensures) c.in_ok-push_pair.ensures
