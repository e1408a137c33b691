use Rattle.std.proofs.Common.{arith}
use Rattle.std.proofs.lemmas.Option.{get_or_from_slice_get, slice_get_within}
use Rattle.solid_faults.proofs.Definite.{few_shells}
use Rattle.solid_faults.proofs.GapSteps.{item_step}
use Rattle.shell_facts.specs.FaceTable.{shell_touches}
use Rattle.shell_facts.proofs.faces.all_touches.Goals as goal

pub shell_at-requires-clause-few : goal.shell_at-requires-clause-few
shell_at-requires-clause-few c =
    omega (arith, c.shells-test.true, c.shell_count-k-end.ensures.count, few_shells c.args.solid.now c.shell_count-k-end.ensures.numbered)

pub overflow_cast-k : goal.overflow_cast-k
overflow_cast-k c = omega (arith, c.shells-test.true, c.shell_count-k-end.ensures.count, few_shells c.args.solid.now c.shell_count-k-end.ensures.numbered)

pub shells-preserved : goal.shells-preserved
shells-preserved c =
    item_step (shell_touches c.args.solid.now) c.args.solid.now.shells c.shell_at.result.now c.shells.k c.shells.out.items c.push_shell.new.out.items _
    (slice_get_within c.args.solid.now.shells c.shells.k c.shell_at.result.now c.shell_at.ensures.shell)
    (get_or_from_slice_get c.args.solid.now.shells c.shells.k c.shell_at.result.now c.shell_at.result.now c.shell_at.ensures.shell) c.shells.invariant
    c.in_ok-push_shell.ensures
