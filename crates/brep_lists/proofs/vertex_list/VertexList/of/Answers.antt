use Rattle.std.proofs.Common.{◌∙◌}
use Rattle.brep_lists.specs.declared.entity_kind.EntityKind.TheVariants.{VertexList as vertices}
use Rattle.brep_lists.proofs.Stride.{vertices_counted}
use Rattle.brep_lists.proofs.Views.{fits, fits_none}
use Rattle.brep_lists.proofs.vertex_list.VertexList.of.Goals as goal

pub returns-in_default-clause-none : goal.returns-in_default-clause-none
returns-in_default-clause-none c = fits_none vertices c.args.values.now (vertices_counted c.args.values.now ∙ c.in_default.ensures)

pub returns-clause-some : goal.returns-clause-some
returns-clause-some c = fits vertices c.args.values.now (vertices_counted c.args.values.now ∙ c.in-Some.ensures.0)
