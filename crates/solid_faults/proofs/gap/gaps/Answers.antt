use Rattle.std.proofs.Common.{sym, ap, ◌∙◌, option_copied}
use Rattle.edge_uses.proofs.Few.{few_shell}
use Rattle.solid_faults.proofs.gap.gaps.Goals as goal

pub push_shell_gaps-requires : goal.push_shell_gaps-requires
push_shell_gaps-requires c =
    few_shell c.args.solid.now c.args.shell.0 c.unwrap-shell.result.now c.shell.ensures.numbered
    (sym c.shell.ensures.item ∙ ap option_copied c.unwrap-shell.ensures)
