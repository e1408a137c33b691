use Rattle.std.proofs.Common.{arith}
use Rattle.cert_state.proofs.UseSizes.{loops_within}
use Rattle.topo_certificate.proofs.upgrading.put_tally_of.Goals as goal

pub loop_count-requires : goal.loop_count-requires
loop_count-requires c = omega (arith, c.recall_numbering.ensures.numbered.few_loops, loops_within c.args.solid.now c.args.at.0 c.args.shell.now c.requires.at)
