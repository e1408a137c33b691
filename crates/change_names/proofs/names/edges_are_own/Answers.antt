use Rattle.std.proofs.Common.{refl, arith}
use Rattle.change_names.specs.Names.{NewEdgeIsOwn}
use Rattle.shell_change.proofs.Matching.{none_below, one_below, each_fails, each_holds}
use Rattle.change_names.proofs.names.edges_are_own.Goals as goal

pub edges-init : goal.edges-init
edges-init c = none_below _ c.args.edges.now

pub returns-then-not-new_edge_is_own : goal.returns-then-not-new_edge_is_own
returns-then-not-new_edge_is_own c = each_fails (λ _ n. NewEdgeIsOwn c.args.rows.now n) c.args.edges.now c.edges.i _ c.item_at-item.ensures c.if-not-new_edge_is_own.ensures.1

pub edges-preserved : goal.edges-preserved
edges-preserved c =
    one_below (λ _ n. NewEdgeIsOwn c.args.rows.now n) c.args.edges.now c.edges.i _ c.item_at-item.ensures (c.if-not-new_edge_is_own.ensures.0 refl) c.edges.invariant

pub returns : goal.returns
returns c = each_holds (λ _ n. NewEdgeIsOwn c.args.rows.now n) c.args.edges.now c.edges.i (omega arith) c.edges.invariant
