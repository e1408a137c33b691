use Rattle.std.proofs.Common.{◌∙◌, refl, sym}
use Rattle.brep_lists.specs.Record.{items_of}
use Rattle.brep_lists.specs.declared.entity_kind.EntityKind.TheVariants.{VertexList as vertices}
use Rattle.list_compact.proofs.ListSteps.{vertices_unused}
use Rattle.list_compact.proofs.values.vertex_values.Goals as goal

pub returns-then-used-eq0 : goal.returns-then-used-eq0
returns-then-used-eq0 c g e m = vertices_unused g e c.args.values c.args.row.now (items_of vertices c.args.values) refl c.requires.size m
    (sym c.count_marks-used.ensures.is ∙ c.if-used-eq0.true)
