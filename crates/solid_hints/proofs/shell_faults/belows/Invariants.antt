use Rattle.std.proofs.Common.{◌≡◌, ℕ, length}
use Rattle.edge_uses.specs.Before.{AreBelow}
use Rattle.solid_hints.specs.AllFaults.{EachBelow}
use Rattle.solid_hints.proofs.shell_faults.belows.Given as goal

abbrev pub invariant-shells : goal.invariant-shells
invariant-shells l = record { below : AreBelow l.solid l.k l.below; many : length l.belows ≡ l.k; each : EachBelow l.solid l.belows }
