use Rattle.std.proofs.lemmas.Result.{err_from_is_err_and}
use Rattle.iges_fields.proofs.Loop.{left_onto}
use Rattle.iges_fields.proofs.reading.read_left.Goals as goal

pub returns-in_err-used : goal.returns-in_err-used
returns-in_err-used c front h =
    let p = err_from_is_err_and c.from_residual.result c.from_residual.ensures.1 in
    rw (p.1, p.2) (c.in_err-used.ensures front (left_onto _ _ front _ _ c.list_for-values.ensures h))
