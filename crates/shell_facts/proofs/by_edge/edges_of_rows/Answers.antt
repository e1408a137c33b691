use Rattle.std.proofs.Common.{arith, refl}
use Rattle.edge_uses.specs.declared.row.Row.{Row}
use Rattle.solid_faults.proofs.GapSteps.{mapped_step}
use Rattle.shell_facts.proofs.EdgeRows.{mapped_done}
use Rattle.shell_facts.proofs.by_edge.edges_of_rows.Goals as goal

pub rows-preserved : goal.rows-preserved
rows-preserved c =
    mapped_step (λ (r : Row). r.edge.0) c.args.rows.now.rows c.row_at.result c.rows.i c.row_at.result.edge.0 c.rows.edges.items c.push.new.self.items _
    c.row_at.ensures c.rows.invariant refl c.in_ok-push.ensures.items

pub returns : goal.returns
returns c =
    mapped_done (λ (r : Row). r.edge.0) c.args.rows.now.rows c.rows.i c.rows.edges.items _
    (omega (arith, c.rows-test.false, c.rows.auto.i-end, c.len-i-end.ensures)) c.rows.invariant
