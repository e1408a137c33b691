use Rattle.std.proofs.Common.{rules, ◌<◌, ◌^◌, arith, length}
use Rattle.solid_faults.proofs.Definite.{few_shells}
use Rattle.solid_mend.specs.Mended.{shell_of_remedies}
use Rattle.solid_mend.proofs.FailingLemmas.{all_done}
use Rattle.solid_mend.proofs.shells.remedies_by.Goals as goal

pub overflow_cast-shell : goal.overflow_cast-shell
overflow_cast-shell c =
    let few = few_shells c.args.solid.now c.shell_count-k-end.ensures.numbered in
    let small : c.shells.k < 2 ^ 32 = omega (arith, few, c.shells-test.true, c.shell_count-k-end.ensures.count) in
    search (rules, small)

pub shells-preserved : goal.shells-preserved
shells-preserved c =
    let lt : c.shells.k < length c.args.solid.now.shells = omega (arith, c.shells-test.true, c.shell_count-k-end.ensures.count) in
    record {
      below = c.below_next-below.ensures c.args.solid.now c.shells.k c.shell_count-k-end.ensures.numbered lt c.shells.invariant.below c.in_ok-rows.ensures;
      failing = c.in_ok-put_shell.ensures.failing c.shells.invariant.failing;
      tried = c.in_ok-put_shell.ensures.tried c.shells.invariant.tried;
    }

pub returns-clause-failing : goal.returns-clause-failing
returns-clause-failing c =
    all_done shell_of_remedies c.args.solid.now c.shells.k c.shells.found.items
    (omega (arith, c.shells-test.false, c.shell_count-k-end.ensures.count)) c.shells.invariant.failing
