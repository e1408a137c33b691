use Rattle.std.proofs.Common.{refl, arith}
use Rattle.shell_change.specs.Moves.{MoveFits}
use Rattle.shell_change.proofs.Matching.{none_below, one_below, each_fails, each_holds}
use Rattle.shell_change.proofs.keeping.moves_fit.Goals as goal

pub moves-init : goal.moves-init
moves-init c = none_below _ c.args.moves.now

pub returns-then-not-move_fits : goal.returns-then-not-move_fits
returns-then-not-move_fits c = each_fails (MoveFits c.args.solid.now c.args.geometry.now c.args.change.now) c.args.moves.now c.moves.i _ c.item_at-item.ensures c.if-not-move_fits.ensures.1

pub moves-preserved : goal.moves-preserved
moves-preserved c =
    one_below (MoveFits c.args.solid.now c.args.geometry.now c.args.change.now) c.args.moves.now c.moves.i _ c.item_at-item.ensures (c.if-not-move_fits.ensures.0 refl) c.moves.invariant

pub returns : goal.returns
returns c = each_holds (MoveFits c.args.solid.now c.args.geometry.now c.args.change.now) c.args.moves.now c.moves.i (omega arith) c.moves.invariant
