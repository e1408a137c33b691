use Rattle.std.proofs.Common.{sym, ap, ◌∙◌, option_copied}
use Rattle.edge_uses.proofs.Few.{few_shell}
use Rattle.edge_uses.proofs.Made.{rows_known, rows_room, rows_whole}
use Rattle.edge_uses.proofs.reading.rows.Goals as goal

pub of_shell-requires-clause-known : goal.of_shell-requires-clause-known
of_shell-requires-clause-known c =
    rows_known c.args.solid.now c.args.shell.0 c.unwrap-shell.result.now c.shell.ensures.numbered
    (sym c.shell.ensures.item ∙ ap option_copied c.unwrap-shell.ensures)

pub of_shell-requires-clause-few : goal.of_shell-requires-clause-few
of_shell-requires-clause-few c =
    few_shell c.args.solid.now c.args.shell.0 c.unwrap-shell.result.now c.shell.ensures.numbered
    (sym c.shell.ensures.item ∙ ap option_copied c.unwrap-shell.ensures)

pub of_shell-requires-clause-room : goal.of_shell-requires-clause-room
of_shell-requires-clause-room c =
    rows_room c.args.solid.now c.args.shell.0 c.unwrap-shell.result.now c.shell.ensures.numbered
    (sym c.shell.ensures.item ∙ ap option_copied c.unwrap-shell.ensures)

pub of_shell-requires-clause-whole : goal.of_shell-requires-clause-whole
of_shell-requires-clause-whole c =
    rows_whole c.args.solid.now c.args.shell.0 c.unwrap-shell.result.now c.shell.ensures.numbered
    (sym c.shell.ensures.item ∙ ap option_copied c.unwrap-shell.ensures)
