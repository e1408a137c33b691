use Rattle.std.proofs.Common.{sym, ap, ◌∙◌, option_copied}
use Rattle.edge_uses.proofs.Few.{few_shell}
use Rattle.edge_uses.proofs.Joins.{first_at_shell, meet_at_shell}
use Rattle.edge_uses.proofs.joining.first_unjoined.Goals as goal

pub open_in_shell-requires : goal.open_in_shell-requires
open_in_shell-requires c =
    few_shell c.args.solid.now c.args.shell.0 c.unwrap-shell.result.now c.shell.ensures.numbered
    (sym c.shell.ensures.item ∙ ap option_copied c.unwrap-shell.ensures)

pub returns-clause-first : goal.returns-clause-first
returns-clause-first c =
    first_at_shell c.args.solid.now c.args.shell.0 c.unwrap-shell.result.now _ (sym c.shell.ensures.item ∙ ap option_copied c.unwrap-shell.ensures)
    c.open_in_shell.ensures

pub returns-clause-meet : goal.returns-clause-meet
returns-clause-meet c =
    meet_at_shell c.args.solid.now c.args.shell.0 c.unwrap-shell.result.now _ (sym c.shell.ensures.item ∙ ap option_copied c.unwrap-shell.ensures)
    c.open_in_shell.ensures
