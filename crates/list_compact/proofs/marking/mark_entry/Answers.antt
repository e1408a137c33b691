use Rattle.std.proofs.Common.{rules}
use Rattle.brep_lists.specs.declared.entity_kind.EntityKind.TheVariants.{Loop as «loop»}
use Rattle.list_compact.proofs.MarkSteps.{never_none}
use Rattle.list_compact.proofs.marking.mark_entry.Goals as goal

pub returns-in_default-clause-edges : goal.returns-in_default-clause-edges
returns-in_default-clause-edges c =
    absurd (never_none «loop» (c.args.entry.now, c.args.values.now) c.requires (search rules) (c.in_default.ensures {u = tt}).none)

pub returns-in_default-clause-vertices : goal.returns-in_default-clause-vertices
returns-in_default-clause-vertices c =
    absurd (never_none «loop» (c.args.entry.now, c.args.values.now) c.requires (search rules) (c.in_default.ensures {u = tt}).none)
