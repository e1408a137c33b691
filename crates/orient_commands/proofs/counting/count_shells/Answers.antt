use Rattle.std.proofs.Common.{◌<◌, arith, length}
use Rattle.cert_state.proofs.UseSizes.{few_shells}
use Rattle.orient_commands.proofs.counting.count_shells.Goals as goal

pub overflow_cast-k : goal.overflow_cast-k
overflow_cast-k c =
    let few : length c.args.solid.now.shells < 536870912 = few_shells c.args.solid.now c.shell_count-k-end.ensures.numbered in
    omega (arith, few, c.shell_count-k-end.ensures.count, c.shells-test.true)
