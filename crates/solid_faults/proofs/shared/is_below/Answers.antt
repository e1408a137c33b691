use Rattle.std.proofs.Common.{arith}
use Rattle.std.proofs.lemmas.Bool.{lt-ltb, ltb-true}
use Rattle.solid_faults.proofs.shared.is_below.Goals as goal

pub returns : goal.returns
returns c s k below =
    let b = below c.args.vertex.0 in
    ((λ h. b.1 (omega (arith, ltb-true c.args.vertex.0 c.args.below h))), (λ h. lt-ltb c.args.vertex.0 c.args.below (omega (arith, b.0 h))))
