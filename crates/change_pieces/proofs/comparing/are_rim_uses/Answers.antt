use Rattle.std.proofs.Common.{refl, arith}
use Rattle.solid_data.specs.declared.solid.LoopUse.{LoopUse}
use Rattle.shell_change.specs.declared.change.RimEdge.{RimEdge}
use Rattle.shell_change.proofs.Matching.{none_below, pair_below, pairs_hold}
use Rattle.change_pieces.specs.Names.{IsUse}
use Rattle.change_pieces.specs.Pieces.{rim_use}
use Rattle.change_pieces.proofs.Steps.{no_claim}
use Rattle.change_pieces.proofs.comparing.are_rim_uses.Goals as goal

pub returns-then-now-uses : goal.returns-then-now-uses
returns-then-now-uses c = λ vs. no_claim

pub uses-init : goal.uses-init
uses-init c = λ vs. none_below _ c.args.uses.now

pub returns-then-not-is_rim_use : goal.returns-then-not-is_rim_use
returns-then-not-is_rim_use c = λ vs. no_claim

pub uses-preserved : goal.uses-preserved
uses-preserved c = λ vs.
    pair_below (λ (x : RimEdge) (u : LoopUse). IsUse vs c.args.edges.now (rim_use x) u) c.args.now.now c.args.uses.now c.uses.i _ _ c.item_at-named.ensures c.item_at-item.ensures
    (c.if-not-is_rim_use.ensures vs refl) (c.uses.invariant vs)

pub returns : goal.returns
returns c = λ vs t.
    (pairs_hold (λ (x : RimEdge) (u : LoopUse). IsUse vs c.args.edges.now (rim_use x) u) c.args.now.now c.args.uses.now c.uses.i c.if-now-uses.false (omega arith) (c.uses.invariant vs)).0 refl
