use Rattle.std.proofs.Common.{arith}
use Rattle.cert_state.proofs.UseSizes.{few_shells}
use Rattle.topo_certificate.proofs.upgrading.put_tally_before.Goals as goal

pub overflow_cast-at : goal.overflow_cast-at
overflow_cast-at c = omega
    (arith, few_shells c.args.solid.now c.shell_count.ensures.numbered, c.shell_count.ensures.count, c.if-shells-shell_count.false, c.if-shells-eq0.false)
