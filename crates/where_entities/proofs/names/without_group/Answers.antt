use Rattle.std.proofs.Common.{subst}
use Rattle.entry_references.specs.Shapes.{IsShapeFault}
use Rattle.where_entities.proofs.NamesGiven.{unlisted}
use Rattle.where_entities.proofs.names.without_group.Goals as goal

pub returns-in-Unlisted : goal.returns-in-Unlisted
returns-in-Unlisted c r h = unlisted r (subst (IsShapeFault r) c.in-Unlisted.is h)
