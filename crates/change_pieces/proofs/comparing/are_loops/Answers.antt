use Rattle.std.proofs.Common.{refl, arith}
use Rattle.change_pieces.specs.Pieces.{IsLoop}
use Rattle.shell_change.proofs.Matching.{none_below, pair_below, pairs_hold}
use Rattle.change_pieces.proofs.Steps.{no_claim}
use Rattle.change_pieces.proofs.comparing.are_loops.Goals as goal

pub returns-then-now-loops : goal.returns-then-now-loops
returns-then-now-loops c = no_claim

pub loops-init : goal.loops-init
loops-init c = none_below _ c.args.loops.now

pub returns-then-not-is_loop : goal.returns-then-not-is_loop
returns-then-not-is_loop c = no_claim

pub loops-preserved : goal.loops-preserved
loops-preserved c =
    pair_below (IsLoop c.args.vertices.now c.args.edges.now) c.args.now.now c.args.loops.now c.loops.i _ _ c.item_at-named.ensures c.item_at-walk.ensures
    (c.if-not-is_loop.ensures refl) c.loops.invariant

pub returns : goal.returns
returns c = λ t. (pairs_hold (IsLoop c.args.vertices.now c.args.edges.now) c.args.now.now c.args.loops.now c.loops.i c.if-now-loops.false (omega arith) c.loops.invariant).0 refl
