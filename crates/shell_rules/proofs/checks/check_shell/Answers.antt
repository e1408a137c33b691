use Rattle.std.proofs.lemmas.Result.{err_from_is_err_and}
use Rattle.std.proofs.lemmas.Option.{slice_get_within}
use Rattle.shell_rules.proofs.CheckedShell.{open_fails, shared_fails, both_hold}
use Rattle.shell_rules.proofs.OneShell.{same_rows}
use Rattle.shell_rules.proofs.checks.check_shell.Goals as goal

pub rows-requires : goal.rows-requires
rows-requires c = slice_get_within c.args.solid.now.shells c.args.at.0 c.args.shell.now c.requires.at

pub returns-in_err-join-clause-fails : goal.returns-in_err-join-clause-fails
returns-in_err-join-clause-fails c =
    let p = err_from_is_err_and c.from_residual.result c.from_residual.ensures.1 in
    rw (p.1, p.2) (open_fails c.args.solid.now c.args.at.0 c.args.shell.now c.in_err-join.field-0.0 c.in_err-join.ensures.fails)

pub returns-in_err-apart-clause-fails : goal.returns-in_err-apart-clause-fails
returns-in_err-apart-clause-fails c =
    let p = err_from_is_err_and c.from_residual-in_err-apart.result c.from_residual-in_err-apart.ensures.1 in
    rw (p.1, p.2)
    (shared_fails c.args.solid.now c.args.at.0 c.args.shell.now c.in_ok-rows.rows c.in_err-apart.field-0.0
    (same_rows c.args.solid.now c.args.at.0 c.args.shell.now c.in_ok-rows.rows c.in_ok-rows.ensures c.requires.at) c.in_ok-join.ensures.holds
    c.in_err-apart.ensures.fails)

pub returns-clause-before : goal.returns-clause-before
returns-clause-before c =
    c.with.ensures c.args.solid.now c.args.at.0 c.recall_numbering.ensures.numbered
    (slice_get_within c.args.solid.now.shells c.args.at.0 c.args.shell.now c.requires.at) c.requires.before c.in_ok-rows.ensures

pub returns-clause-holds : goal.returns-clause-holds
returns-clause-holds c =
    both_hold c.args.solid.now c.args.at.0 c.args.shell.now c.in_ok-rows.rows
    (same_rows c.args.solid.now c.args.at.0 c.args.shell.now c.in_ok-rows.rows c.in_ok-rows.ensures c.requires.at) c.in_ok-join.ensures.holds
    c.in_ok-apart.ensures.holds
