use Rattle.std.proofs.lemmas.Option.{slice_get_within, get_or_from_slice_get}
use Rattle.solid_faults.specs.Edges.{row_on}
use Rattle.solid_faults.proofs.GapSteps.{item_step}
use Rattle.solid_faults.proofs.edge.rows_of_edge.Goals as goal

pub rows-preserved : goal.rows-preserved
rows-preserved c =
    item_step (row_on c.args.edge.0) c.args.rows.now.rows c.row_at.result c.rows.i c.rows.out.items c.push_if.new.out.items _
    (slice_get_within c.args.rows.now.rows c.rows.i c.row_at.result c.row_at.ensures)
    (get_or_from_slice_get c.args.rows.now.rows c.rows.i c.row_at.result c.row_at.result c.row_at.ensures) c.rows.invariant c.in_ok-push_if.ensures
