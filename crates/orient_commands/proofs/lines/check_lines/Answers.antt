use Rattle.std.proofs.Common.{◌<◌, arith, length}
use Rattle.cert_state.proofs.UseSizes.{few_shells}
use Rattle.orient_commands.proofs.lines.check_lines.Goals as goal

pub overflow_cast-k : goal.overflow_cast-k
overflow_cast-k c =
    let few : length c.args.solid.now.shells < 536870912 = few_shells c.args.solid.now c.shell_count-k-end.ensures.numbered in
    omega (arith, few, c.shell_count-k-end.ensures.count, c.shells-test.true)

pub overflow_add-number : goal.overflow_add-number
overflow_add-number c =
    let few : length c.args.solid.now.shells < 536870912 = few_shells c.args.solid.now c.shell_count-k-end.ensures.numbered in
    omega (arith, few, c.shell_count.ensures.count)

pub overflow_add-number-2 : goal.overflow_add-number-2
overflow_add-number-2 c =
    let few : length c.args.solid.now.shells < 536870912 = few_shells c.args.solid.now c.shell_count-k-end.ensures.numbered in
    omega (arith, few, c.shell_count.ensures.count)
