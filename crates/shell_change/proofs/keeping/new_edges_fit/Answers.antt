use Rattle.std.proofs.Common.{refl, arith}
use Rattle.shell_change.specs.UseFits.{NewEdgeFits}
use Rattle.shell_change.proofs.Matching.{none_below, one_below, each_fails, each_holds}
use Rattle.shell_change.proofs.keeping.new_edges_fit.Goals as goal

pub edges-init : goal.edges-init
edges-init c = none_below _ c.args.edges.now

pub returns-then-not-new_edge_fits : goal.returns-then-not-new_edge_fits
returns-then-not-new_edge_fits c = each_fails (λ _ n. NewEdgeFits c.args.solid.now c.args.geometry.now c.args.change.now n) c.args.edges.now c.edges.i _ c.item_at-item.ensures c.if-not-new_edge_fits.ensures.1

pub edges-preserved : goal.edges-preserved
edges-preserved c =
    one_below (λ _ n. NewEdgeFits c.args.solid.now c.args.geometry.now c.args.change.now n) c.args.edges.now c.edges.i _ c.item_at-item.ensures (c.if-not-new_edge_fits.ensures.0 refl) c.edges.invariant

pub returns : goal.returns
returns c = each_holds (λ _ n. NewEdgeFits c.args.solid.now c.args.geometry.now c.args.change.now n) c.args.edges.now c.edges.i (omega arith) c.edges.invariant
