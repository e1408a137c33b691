use Rattle.std.proofs.Common.{arith}
use Rattle.cert_state.proofs.UseSizes.{few_shells}
use Rattle.iges_solid_cmd.proofs.sampling.face_count.Goals as goal

pub overflow_cast-k-end : goal.overflow_cast-k-end
overflow_cast-k-end c = omega (arith, few_shells c.args.solid.now c.shell_count-k-end.ensures.numbered, c.shell_count-k-end.ensures.count)
