use Rattle.std.proofs.Common.{◌∙◌, sym, subst, ap, refl}
use Rattle.std.proofs.lemmas.Result.{err_from_is_err_and}
use Rattle.std.proofs.lemmas.Option.{slice_get_within}
use Rattle.edge_uses.specs.ShellRows.{EndsMeet, rows_of, shell_rows}
use Rattle.open_shells.proofs.OpenRules.{joined_not}
use Rattle.open_shells.proofs.making.shell_parts.Goals as goal

pub rows-requires : goal.rows-requires
rows-requires c = slice_get_within c.args.solid.now.shells 0 c.args.shell.now c.requires

pub returns-in_err-join-clause-fails : goal.returns-in_err-join-clause-fails
returns-in_err-join-clause-fails c =
    let p = err_from_is_err_and c.from_residual.result c.from_residual.ensures.1 in
    rw (p.1, p.2) (joined_not c.args.solid.now c.args.shell.now (shell_rows c.args.solid.now c.args.shell.now) refl c.in_err-join.field-0.0
    c.in_err-join.ensures.fails)

pub row_parts-made-requires-clause-rows : goal.row_parts-made-requires-clause-rows
row_parts-made-requires-clause-rows c = c.in_ok-rows.ensures ∙ ap (rows_of c.args.solid.now) c.requires

pub row_parts-made-requires-clause-meet : goal.row_parts-made-requires-clause-meet
row_parts-made-requires-clause-meet c = subst EndsMeet (sym (c.in_ok-rows.ensures ∙ ap (rows_of c.args.solid.now) c.requires)) c.in_ok-join.ensures.meet
