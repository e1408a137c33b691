use Rattle.std.specs.Prelude.{All}
use Rattle.edge_uses.specs.Before.{AreBelow}
use Rattle.solid_mend.specs.Failing.{SoFar}
use Rattle.solid_mend.specs.Mended.{AreTriedOf, shell_of_remedies}
use Rattle.solid_mend.proofs.shells.remedies_by.Given as goal

abbrev pub invariant-shells : goal.invariant-shells
invariant-shells l = record {
  below : AreBelow l.solid l.k l.below;
  failing : SoFar shell_of_remedies l.solid l.k l.found.items;
  tried : All (AreTriedOf l.solid l.known.geometry) l.found.items;
}
