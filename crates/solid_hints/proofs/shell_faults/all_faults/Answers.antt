use Rattle.std.proofs.Common.{◌<◌, ◌^◌, arith, length, rules}
use Rattle.solid_faults.proofs.Definite.{few_shells}
use Rattle.solid_hints.proofs.Gathered.{faults_more, longer}
use Rattle.solid_hints.proofs.shell_faults.all_faults.Goals as goal

pub overflow_cast-at : goal.overflow_cast-at
overflow_cast-at c =
    let few = few_shells c.args.solid.now c.shell_count-count.ensures.numbered in
    let small : c.shells.k < 2 ^ 32 = omega (arith, few, c.shells-test.true, c.shell_count-count.ensures.count) in
    search (rules, small)

pub shells-preserved : goal.shells-preserved
shells-preserved c =
    let lt : c.shells.k < length c.args.solid.now.shells = omega (arith, c.shells-test.true, c.shell_count-count.ensures.count) in
    record {
      below = c.below_next-below.ensures c.args.solid.now c.shells.k c.shell_count-count.ensures.numbered lt c.shells.invariant.below c.in_ok-rows.ensures;
      each = longer c.shells.all c.push.new.self c.in_ok-faults_of.field-0 c.shells.k c.shells.invariant.each c.in_ok-push.ensures.ok;
      shell = faults_more c.args.solid.now c.shells.k c.shells.all c.push.new.self c.in_ok-faults_of.field-0 c.shells.invariant.each c.in_ok-push.ensures.ok
          c.shells.invariant.shell c.in_ok-faults_of.ensures;
    }
