use Rattle.std.proofs.Common.{rules}
use Rattle.brep_lists.specs.declared.entity_kind.EntityKind.TheVariants.{VertexList as vertices}
use Rattle.list_compact.proofs.MarkSteps.{never_none}
use Rattle.list_compact.proofs.marking.vertex_count.Goals as goal

pub returns-in-None : goal.returns-in-None
returns-in-None c = absurd (never_none vertices (c.args.entry.now, c.args.values.now) c.requires (search rules) (c.in-None.ensures {u = tt}).none)
