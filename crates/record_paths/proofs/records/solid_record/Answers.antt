use Rattle.std.proofs.lemmas.Int.{to_z-of_z}
use mir.Syntax.{w64}
use Rattle.brep_lists.specs.declared.entity_kind.EntityKind.TheVariants.{Solid as solid}
use Rattle.record_paths.proofs.Layouts.{not_of_kind}
use Rattle.record_paths.proofs.records.solid_record.Goals as goal

pub returns-in_default-of-clause-none : goal.returns-in_default-of-clause-none
returns-in_default-of-clause-none c = not_of_kind solid c.args.file.now c.args.number _
    (to_z-of_z w64 c.args.number c.ranges.number) _ c.in-Some.ensures.some.1 c.in_default-of.ensures.none
