use Rattle.std.proofs.Common.{rules}
use Rattle.brep_lists.specs.declared.entity_kind.EntityKind.TheVariants.{EdgeList as edges}
use Rattle.list_compact.proofs.MarkSteps.{never_none}
use Rattle.list_compact.proofs.marking.mark_entry_ends.Goals as goal

pub returns-in_default-clause-marked : goal.returns-in_default-clause-marked
returns-in_default-clause-marked c =
    absurd (never_none edges (c.args.entry.now, c.args.values.now) c.requires.of_kind (search rules) (c.in_default.ensures {u = tt}).none)
