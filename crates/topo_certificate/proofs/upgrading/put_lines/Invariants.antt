use Rattle.std.proofs.Common.{length}
use Rattle.topo_certificate.proofs.UpgradedText.{ToPut}
use Rattle.topo_certificate.proofs.upgrading.put_lines.Given as goal

abbrev pub invariant-lines : goal.invariant-lines
invariant-lines l = ToPut l.solid l.text l.fn.out l.out l.rest l.shells

abbrev pub decreases-lines : goal.decreases-lines
decreases-lines l = length l.rest
