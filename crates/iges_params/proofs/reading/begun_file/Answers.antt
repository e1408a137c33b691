use Rattle.std.proofs.lemmas.Result.{err_from_is_err_and}
use Rattle.iges_params.proofs.FilePass.{kinds_fit, global_fails, directory_fails}
use Rattle.iges_params.proofs.reading.begun_file.Goals as goal

pub returns-in_err-global : goal.returns-in_err-global
returns-in_err-global c =
    let p = err_from_is_err_and c.from_residual.result c.from_residual.ensures.1 in
    rw (p.1, p.2) (global_fails c.args.lines.now _ (c.in_err-global.ensures {u = tt}))

pub returns-in_err-entries : goal.returns-in_err-entries
returns-in_err-entries c =
    let p = err_from_is_err_and c.from_residual-in_err-entries.result c.from_residual-in_err-entries.ensures.1 in
    let failed = c.in_err-entries.ensures {u = tt} in
    rw (p.1, p.2) (directory_fails c.args.lines.now c.in_ok-global.global (c.in_ok-global.ensures {u = tt}) _ failed.fault)

pub begun-requires : goal.begun-requires
begun-requires c = kinds_fit c.args.lines.now c.in_ok-global.global (c.in_ok-global.ensures {u = tt})
