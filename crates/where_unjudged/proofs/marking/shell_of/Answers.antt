use Rattle.brep_lists.specs.declared.entity_kind.EntityKind.TheVariants.{Shell as shell}
use Rattle.where_unjudged.proofs.Marks.{fitting}
use Rattle.where_unjudged.proofs.marking.shell_of.Goals as goal

pub returns : goal.returns
returns c = fitting shell c.args.values.now c.of.result c.of.ensures.some c.of.ensures.read c.of.ensures.none
