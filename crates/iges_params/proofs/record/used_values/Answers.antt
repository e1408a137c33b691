use Rattle.std.proofs.Common.{◌∙◌, refl, sym}
use Rattle.std.proofs.lemmas.Result.{err_from_is_err_and}
use Rattle.iges_params.proofs.RecordPass.{foreign_fails, text_fails, text_goes_on}
use Rattle.iges_params.proofs.record.used_values.Goals as goal

pub returns-in-Some-clause-gives : goal.returns-in-Some-clause-gives
returns-in-Some-clause-gives c =
    let found = c.in-Some.ensures {u = tt} in
    rw c.bad.ensures (foreign_fails c.args.params.now.above c.args.params.now.lines.now.param c.args.params.now.delims c.args.number c.args.placed.now _ _ _ c.magnitude-place.ensures
    c.magnitude-count.ensures refl c.in-Some.i found.place)

pub returns-in_err-number-clause-gives : goal.returns-in_err-number-clause-gives
returns-in_err-number-clause-gives c =
    let p = err_from_is_err_and c.from_residual-in_err-number.result c.from_residual-in_err-number.ensures.1 in
    let put = c.in_ok-columns.ensures {u = tt} in
    let none = sym c.in_default.is ∙ c.first_foreign.ensures.place in
    rw (p.1, p.2) (
    text_fails c.args.params.now.above c.args.params.now.lines.now.param c.args.params.now.delims c.args.number c.args.placed.now _ _ _ c.magnitude-place.ensures c.magnitude-count.ensures
    refl none c.in_ok-columns.columns.now put.text _
    (c.in_err-number.ensures {u = tt}).err
    )

pub returns-clause-gives : goal.returns-clause-gives
returns-clause-gives c =
    let put = c.in_ok-columns.ensures {u = tt} in
    let none = sym c.in_default.is ∙ c.first_foreign.ensures.place in
    text_goes_on c.args.params.now.above c.args.params.now.lines.now.param c.args.params.now.delims c.args.number c.args.placed.now _ _ _ c.magnitude-place.ensures c.magnitude-count.ensures
    refl none c.in_ok-columns.columns.now put.text _ _
    (c.in_ok-number.ensures {u = tt}).ok c.behind_type.ensures
