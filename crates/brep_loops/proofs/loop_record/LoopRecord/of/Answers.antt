use Rattle.std.proofs.Common.{◌∙◌}
use Rattle.brep_lists.specs.declared.entity_kind.EntityKind.TheVariants.{Loop as «loop»}
use Rattle.brep_lists.proofs.Tuples.{loop_tested}
use Rattle.brep_lists.proofs.Views.{fits, fits_none}
use Rattle.brep_loops.proofs.loop_record.LoopRecord.of.Goals as goal

pub returns-in_default-clause-none : goal.returns-in_default-clause-none
returns-in_default-clause-none c = fits_none «loop» c.args.values.now (loop_tested c.args.values.now ∙ c.in_default.ensures)

pub returns-clause-some : goal.returns-clause-some
returns-clause-some c = fits «loop» c.args.values.now (loop_tested c.args.values.now ∙ c.in-Some.ensures.0)
