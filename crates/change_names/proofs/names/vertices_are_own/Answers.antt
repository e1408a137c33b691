use Rattle.std.proofs.Common.{refl, arith}
use Rattle.std.specs.Prelude.{Contains}
use Rattle.shell_change.specs.declared.change.NewVertex.{NewVertex}
use Rattle.shell_change.proofs.Matching.{none_below, one_below, each_fails, each_holds}
use Rattle.change_names.proofs.names.vertices_are_own.Goals as goal

pub vertices-init : goal.vertices-init
vertices-init c = none_below _ c.args.vertices.now

pub returns-then-not-new_vertex_is_own : goal.returns-then-not-new_vertex_is_own
returns-then-not-new_vertex_is_own c = each_fails (λ _ (n : NewVertex). Contains c.args.rows.now.vertices n.like.0) c.args.vertices.now c.vertices.i _ c.item_at-item.ensures c.if-not-new_vertex_is_own.ensures.1

pub vertices-preserved : goal.vertices-preserved
vertices-preserved c =
    one_below (λ _ (n : NewVertex). Contains c.args.rows.now.vertices n.like.0) c.args.vertices.now c.vertices.i _ c.item_at-item.ensures (c.if-not-new_vertex_is_own.ensures.0 refl) c.vertices.invariant

pub returns : goal.returns
returns c = each_holds (λ _ (n : NewVertex). Contains c.args.rows.now.vertices n.like.0) c.args.vertices.now c.vertices.i (omega arith) c.vertices.invariant
