use Rattle.std.specs.Prelude.{ℕ}
use Rattle.edge_uses.specs.Before.{AreBelow}
use Rattle.shell_change.proofs.Matching.{EachBelow}
use Rattle.solid_data.specs.SolidData.{SolidData}
use Rattle.change_passes.specs.Passes.{IsOldApart}
use Rattle.change_passes.proofs.passing.are_apart.Given as goal

abbrev pub invariant-vertices : goal.invariant-vertices
invariant-vertices l = (s : SolidData) (k : ℕ) → AreBelow s k l.below → EachBelow (λ _ name. IsOldApart s k name) l.vertices l.i
