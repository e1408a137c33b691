use Rattle.std.proofs.lemmas.Result.{err_from_is_err_and}
use Rattle.iges_params.proofs.Globals.{values_fail, values_go_on}
use Rattle.iges_params.proofs.global_pass.global_of_text.Goals as goal

pub returns-in_err-values : goal.returns-in_err-values
returns-in_err-values c =
    let p = err_from_is_err_and c.from_residual.result c.from_residual.ensures.1 in
    rw (p.1, p.2) (values_fail c.args.first c.args.text.now _ _ (c.in-Some.ensures {u = tt}) (c.in_err-values.ensures {u = tt}))

pub returns : goal.returns
returns c = values_go_on c.args.first c.args.text.now _ _ _ (c.in-Some.ensures {u = tt}) (c.in_ok-values.ensures {u = tt}) c.with_kinds.ensures
