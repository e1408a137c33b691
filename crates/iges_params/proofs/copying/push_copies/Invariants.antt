use Rattle.std.proofs.Common.{◌≡◌, ◌++◌, take, drop}
use Rattle.iges_params.proofs.copying.push_copies.Given as goal

abbrev pub invariant-values : goal.invariant-values
invariant-values l = l.list ≡ l.fn.list ++ take l.i (drop l.from l.values)
