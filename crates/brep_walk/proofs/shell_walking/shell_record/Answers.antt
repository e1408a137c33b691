use Rattle.std.proofs.Common.{pos, ap, ◌∙◌}
use Rattle.brep_lists.specs.Record.{items_of}
use Rattle.brep_lists.specs.declared.entity_kind.EntityKind.TheVariants.{Shell as shell}
use Rattle.brep_walk.proofs.Opened.{named_few}
use Rattle.brep_walk.proofs.ShellSolids.{shell_opened, not_a_shell, shell_not_opened}
use Rattle.brep_walk.proofs.shell_walking.shell_record.Goals as goal

pub returns-in_err-values-clause-fails : goal.returns-in_err-values-clause-fails
returns-in_err-values-clause-fails c = not_a_shell c.args.file.now c.args.entity.0 _ _ c.in_err-values.ensures.fails c.from_residual.ensures.1

pub returns-in-Some-clause-holds : goal.returns-in-Some-clause-holds
returns-in-Some-clause-holds c =
    shell_opened c.args.file.now c.args.entity.0 _ _ c.in_ok-values.ensures.holds c.in_ok-values.ensures.values c.in-Some.ensures.some c.in-Some.ensures.read

pub returns-in-Some-clause-listed : goal.returns-in-Some-clause-listed
returns-in-Some-clause-listed c = c.in-Some.ensures.read ∙ ap (items_of shell) c.in_ok-values.ensures.values

pub returns-in-Some-clause-few : goal.returns-in-Some-clause-few
returns-in-Some-clause-few c =
    named_few shell c.args.file.now (pos c.args.entity.0) c.in_ok-values.ensures.limits c.in_ok-values.ensures.holds.0 _ _ c.in_ok-values.ensures.values
    c.in-Some.ensures.some

pub returns-in-None-clause-fails : goal.returns-in-None-clause-fails
returns-in-None-clause-fails c =
    shell_not_opened c.args.file.now c.args.entity.0 _ _ c.in_ok-values.ensures.holds c.in_ok-values.ensures.values c.in-None.ensures.none c.fails.ensures
