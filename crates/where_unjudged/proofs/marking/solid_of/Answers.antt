use Rattle.brep_lists.specs.declared.entity_kind.EntityKind.TheVariants.{Solid as solid}
use Rattle.where_unjudged.proofs.Marks.{fitting}
use Rattle.where_unjudged.proofs.marking.solid_of.Goals as goal

pub returns : goal.returns
returns c = fitting solid c.args.values.now c.of.result c.of.ensures.some c.of.ensures.read c.of.ensures.none
