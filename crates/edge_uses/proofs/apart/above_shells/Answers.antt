use Rattle.std.proofs.Common.{sym, ◌∙◌, ap, option_copied}
use Rattle.edge_uses.proofs.Above.{above_next}
use Rattle.edge_uses.proofs.apart.above_shells.Goals as goal

pub shells-preserved : goal.shells-preserved
shells-preserved c =
    above_next c.args.solid.now c.shells.k c.shells.above c.above_shell-above.result c.unwrap.result.now
    (sym c.shell.ensures.item ∙ ap option_copied c.unwrap.ensures) c.shells.invariant c.above_shell-above.ensures
