use Rattle.std.proofs.Common.{◌∙◌}
use Rattle.brep_lists.specs.declared.entity_kind.EntityKind.TheVariants.{EdgeList as edges}
use Rattle.brep_lists.proofs.Stride.{edges_counted}
use Rattle.brep_lists.proofs.Views.{fits, fits_none}
use Rattle.brep_lists.proofs.edge_list.EdgeList.of.Goals as goal

pub returns-in_default-clause-none : goal.returns-in_default-clause-none
returns-in_default-clause-none c = fits_none edges c.args.values.now (edges_counted c.args.values.now ∙ c.in_default.ensures)

pub returns-clause-some : goal.returns-clause-some
returns-clause-some c = fits edges c.args.values.now (edges_counted c.args.values.now ∙ c.in-Some.ensures.0)
