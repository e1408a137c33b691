use Rattle.std.specs.Prelude.{◌<◌}
use Rattle.shell_change.specs.declared.change.Rim.{Rim}
use Rattle.shell_change.proofs.Matching.{EachBelow}
use Rattle.change_pieces.proofs.gathering.rims_within.Given as goal

abbrev pub invariant-rims : goal.invariant-rims
invariant-rims l = EachBelow (λ _ (rim : Rim). rim.piece < l.count) l.rims l.i
