use Rattle.std.proofs.Common.{◌+◌, ◌<◌, ◌^◌, arith, rules}
use Rattle.solid_data.proofs.Members.{get_some}
use Rattle.solid_faults.proofs.Definite.{few_shells}
use Rattle.solid_hints.proofs.Counts.{counted_few, counted_more}
use Rattle.solid_hints.proofs.flags.unset_flags.Goals as goal

pub unset_at-count-requires-clause-few : goal.unset_at-count-requires-clause-few
unset_at-count-requires-clause-few c =
    omega (arith, few_shells c.args.solid.now c.shell_count-k-end.ensures.numbered, c.shells-test.true, c.shell_count-k-end.ensures.count)

pub overflow_add-count : goal.overflow_add-count
overflow_add-count c =
    let h = get_some c.args.solid.now.shells c.shells.k (omega (arith, c.shells-test.true, c.shell_count-k-end.ensures.count)) in
    let is = rw h.1 at c.unset_at-count.ensures in
    let few = counted_few c.args.solid.now c.shells.k h.0 c.shells.count c.unset_at-count.result c.shell_count-k-end.ensures.numbered h.1 is c.shells.invariant
    in
    let small : c.shells.count + c.unset_at-count.result < 2 ^ 64 = omega (arith, few) in
    search (rules, small)

pub shells-preserved : goal.shells-preserved
shells-preserved c =
    let h = get_some c.args.solid.now.shells c.shells.k (omega (arith, c.shells-test.true, c.shell_count-k-end.ensures.count)) in
    let is = rw h.1 at c.unset_at-count.ensures in
    counted_more c.args.solid.now c.shells.k h.0 c.shells.count c.unset_at-count.result h.1 is c.shells.invariant
