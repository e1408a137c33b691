use Rattle.std.proofs.Common.{◌<◌, ◌^◌, arith, length, rules, subst, sym}
use Rattle.edge_uses.specs.Before.{AreBelow}
use Rattle.solid_faults.proofs.Definite.{few_shells}
use Rattle.solid_hints.proofs.Gathered.{longer, one_below}
use Rattle.solid_hints.proofs.shell_faults.belows.Goals as goal

pub overflow_cast-k : goal.overflow_cast-k
overflow_cast-k c =
    let few = few_shells c.args.solid.now c.shell_count-count.ensures.numbered in
    let small : c.shells.k < 2 ^ 32 = omega (arith, few, c.shells-test.true, c.shell_count-count.ensures.count) in
    search (rules, small)

pub shells-preserved : goal.shells-preserved
shells-preserved c =
    let lt : c.shells.k < length c.args.solid.now.shells = omega (arith, c.shells-test.true, c.shell_count-count.ensures.count) in
    record {
      below = c.below_next-below.ensures c.args.solid.now c.shells.k c.shell_count-count.ensures.numbered lt c.shells.invariant.below c.in_ok-rows.ensures;
      many = longer c.shells.belows c.push.new.self c.shells.below c.shells.k c.shells.invariant.many c.in_ok-push.ensures.ok;
      each = one_below c.args.solid.now c.shells.k c.shells.below c.shells.belows c.push.new.self c.shells.invariant.many c.in_ok-push.ensures.ok
          c.shells.invariant.below c.shells.invariant.each;
    }
