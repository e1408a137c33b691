use Rattle.std.proofs.Common.{refl, subst, sym}
use Rattle.std.proofs.lemmas.Result.{err_from_is_err_and}
use Rattle.std.proofs.lemmas.Option.{slice_get_within}
use Rattle.edge_uses.specs.ShellRows.{EndsMeet, shell_rows}
use Rattle.shell_rules.proofs.OneShell.{joined_not, same_rows}
use Rattle.cert_maker.proofs.shell_part.shell_part.Goals as goal

pub rows-requires : goal.rows-requires
rows-requires c = slice_get_within c.args.solid.now.shells c.args.at.0 c.args.shell.now c.requires.at

pub returns-in_err-join-clause-fails : goal.returns-in_err-join-clause-fails
returns-in_err-join-clause-fails c =
    let p = err_from_is_err_and c.from_residual.result c.from_residual.ensures.1 in
    rw (p.1, p.2) (joined_not c.args.solid.now c.args.at.0 c.args.shell.now (shell_rows c.args.solid.now c.args.shell.now) refl c.in_err-join.field-0.0
    c.in_err-join.ensures.fails)

pub returns-clause-before : goal.returns-clause-before
returns-clause-before c =
    c.with.ensures c.args.solid.now c.args.at.0 c.recall_numbering.ensures.numbered
    (slice_get_within c.args.solid.now.shells c.args.at.0 c.args.shell.now c.requires.at) c.requires.before c.in_ok-rows.ensures

pub closed_part-requires-clause-meet : goal.closed_part-requires-clause-meet
closed_part-requires-clause-meet c =
    subst EndsMeet (sym (same_rows c.args.solid.now c.args.at.0 c.args.shell.now c.in_ok-rows.rows c.in_ok-rows.ensures c.requires.at)) c.in_ok-join.ensures.meet

pub returns-in_err-part-clause-fails : goal.returns-in_err-part-clause-fails
returns-in_err-part-clause-fails c =
    let p = err_from_is_err_and c.from_residual-in_err-part.result c.from_residual-in_err-part.ensures.1 in
    rw (p.1, p.2) c.in_err-part.ensures.fails

pub returns-clause-part : goal.returns-clause-part
returns-clause-part c = c.in_ok-part.ensures.part

pub returns-clause-holds : goal.returns-clause-holds
returns-clause-holds c = c.in_ok-part.ensures.holds
