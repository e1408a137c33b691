use Rattle.std.specs.Prelude.{◌≤◌}
use Rattle.std.proofs.Common.{sym, subst, arith}
use Rattle.change_passes.specs.Passes.{IsOldApart}
use Rattle.change_passes.proofs.passing.is_apart.Goals as goal

pub returns-in-Old : goal.returns-in-Old
returns-in-Old c = λ s k b t.
    subst (IsOldApart s k) (sym c.in-Old.is) (λ has. let low : c.args.below ≤ c.in-Old.vertex.0 = search (arith, t) in let lt = (b c.in-Old.vertex.0).0 has in absurd (omega (arith, lt, low)))
