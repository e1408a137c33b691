use Rattle.std.proofs.Common.{◌∙◌, refl, sym}
use Rattle.brep_lists.specs.Record.{items_of}
use Rattle.brep_lists.specs.declared.entity_kind.EntityKind.TheVariants.{EdgeList as edges}
use Rattle.list_compact.proofs.ListSteps.{edges_unused}
use Rattle.list_compact.proofs.values.edge_values.Goals as goal

pub returns-then-used-eq0 : goal.returns-then-used-eq0
returns-then-used-eq0 c g e t m = edges_unused g e c.args.values c.args.row.now (items_of edges c.args.values) refl c.requires.size m
    (sym c.count_marks-used.ensures.is ∙ c.if-used-eq0.true)
