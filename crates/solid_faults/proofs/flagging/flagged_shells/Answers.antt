use Rattle.std.proofs.Common.{◌∙◌, ◌++◌, ◌∷◌, [], ap, arith}
use Rattle.solid_faults.specs.FaceFlags.{flagged_shell}
use Rattle.solid_faults.proofs.Definite.{few_shells}
use Rattle.solid_faults.proofs.Flagged.{mapped_step}
use Rattle.solid_faults.proofs.flagging.flagged_shells.Goals as goal

pub shell_at-requires-clause-few : goal.shell_at-requires-clause-few
shell_at-requires-clause-few c =
    omega (arith, c.shells-test.true, c.shell_count-count.ensures.count, few_shells c.args.solid.now c.shell_count-count.ensures.numbered)

pub shells-preserved : goal.shells-preserved
shells-preserved c =
    mapped_step flagged_shell c.args.solid.now.shells c.shell_at.result.now c.shells.k c.shells.copy c.push.new.self _ c.shell_at.ensures c.shells.invariant
    (c.in_ok-push.ensures.ok ∙ ap (λ h. c.shells.copy ++ h ∷ []) c.in_ok-flagged_shell.ensures)
