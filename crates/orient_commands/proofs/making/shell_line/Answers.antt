use Rattle.std.proofs.Common.{◌<◌, arith, length}
use Rattle.orient_certificate.specs.OddRing.{row_numbers}
use Rattle.cert_state.proofs.UseSizes.{few_shells}
use Rattle.orient_commands.proofs.ShellSteps.{ring_low, ring_spelled, flags_spelled}
use Rattle.orient_commands.proofs.making.shell_line.Goals as goal

pub overflow_add-result : goal.overflow_add-result
overflow_add-result c =
    let few : length c.args.solid.now.shells < 536870912 = few_shells c.args.solid.now c.shell_count-count.ensures.numbered in
    omega (arith, few, c.requires)

pub overflow_add-result-in-Ring : goal.overflow_add-result-in-Ring
overflow_add-result-in-Ring c =
    let few : length c.args.solid.now.shells < 536870912 = few_shells c.args.solid.now c.shell_count-count.ensures.numbered in
    omega (arith, few, c.requires)

pub numbers_of-requires : goal.numbers_of-requires
numbers_of-requires c =
    ring_low c.args.solid.now c.args.at.0 (row_numbers c.as_slice.result.now) c.shell_count-count.ensures.numbered
    (rw c.as_slice.ensures (rw c.in-Ring.is at c.in_ok-flags.ensures.found))

pub returns-in-Flags-clause-spelled : goal.returns-in-Flags-clause-spelled
returns-in-Flags-clause-spelled c = flags_spelled c.args.solid.now c.args.at.0 c.in-Flags.flags c.shell_count-count.ensures.numbered c.requires
    (rw c.in-Flags.is at c.in_ok-flags.ensures.found)

pub returns-in_ok-numbers_of-in-Ring-clause-spelled : goal.returns-in_ok-numbers_of-in-Ring-clause-spelled
returns-in_ok-numbers_of-in-Ring-clause-spelled c =
    ring_spelled c.args.solid.now c.args.at.0 (row_numbers c.as_slice.result.now) c.in_ok-numbers_of-in-Ring.field-0 c.shell_count-count.ensures.numbered
    c.requires c.in_ok-numbers_of-in-Ring.ensures
    (rw c.as_slice.ensures (rw c.in-Ring.is at c.in_ok-flags.ensures.found))
