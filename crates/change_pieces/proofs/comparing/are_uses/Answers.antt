use Rattle.std.proofs.Common.{refl, arith}
use Rattle.change_pieces.specs.Names.{IsUse}
use Rattle.shell_change.proofs.Matching.{none_below, pair_below, pairs_hold}
use Rattle.change_pieces.proofs.Steps.{no_claim}
use Rattle.change_pieces.proofs.comparing.are_uses.Goals as goal

pub returns-then-now-uses : goal.returns-then-now-uses
returns-then-now-uses c = no_claim

pub uses-init : goal.uses-init
uses-init c = none_below _ c.args.uses.now

pub returns-then-not-is_use : goal.returns-then-not-is_use
returns-then-not-is_use c = no_claim

pub uses-preserved : goal.uses-preserved
uses-preserved c =
    pair_below (IsUse c.args.vertices.now c.args.edges.now) c.args.now.now c.args.uses.now c.uses.i _ _ c.item_at-named.ensures c.item_at-item.ensures
    (c.if-not-is_use.ensures refl) c.uses.invariant

pub returns : goal.returns
returns c = λ t. (pairs_hold (IsUse c.args.vertices.now c.args.edges.now) c.args.now.now c.args.uses.now c.uses.i c.if-now-uses.false (omega arith) c.uses.invariant).0 refl
