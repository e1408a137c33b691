use Rattle.std.specs.Prelude.{◌≡◌}
use Rattle.solid_data.specs.declared.solid.LoopUse.{LoopUse}
use Rattle.shell_change.specs.Fits.{reversed_uses}
use Rattle.shell_change.proofs.Matching.{EachBelow, each_pair}
use Rattle.shell_change.proofs.loops.is_own_reverse.Given as goal

abbrev pub invariant-uses : goal.invariant-uses
invariant-uses l = EachBelow (each_pair (λ (a b : LoopUse). a ≡ b) (reversed_uses l.uses)) l.uses l.i
