use Rattle.edge_uses.specs.Before.{AreBelow}
use Rattle.solid_faults.proofs.Definite.{LeftHold}
use Rattle.solid_faults.proofs.closing.is_closed.Given as goal

abbrev pub invariant-shells : goal.invariant-shells
invariant-shells l = record {
  below : AreBelow l.solid l.k l.below;
  left : LeftHold l.solid l.k;
}
