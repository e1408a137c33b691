use Rattle.std.proofs.Common.{sym, subst}
use Rattle.edge_uses.specs.ShellRows.{AreRows}
use Rattle.shell_facts.proofs.TurnSteps.{leasts_low, starts_within, points_within}
use Rattle.shell_facts.proofs.turning.vertex_tables.Goals as goal

pub grouped-requires-clause-within : goal.grouped-requires-clause-within
grouped-requires-clause-within c =
    starts_within c.rows-rows.result.now c.vertex_span.result c.in_ok-from.from.items
    (subst AreRows (sym c.rows-rows.ensures.rows) c.rows-rows.ensures.whole.rows) c.vertex_span.ensures c.in_ok-from.ensures

pub by_least-requires-clause-low : goal.by_least-requires-clause-low
by_least-requires-clause-low c = leasts_low c.args.paired.now c.args.leasts.now c.requires

pub grouped-requires-2-clause-within : goal.grouped-requires-2-clause-within
grouped-requires-2-clause-within c =
    points_within c.rows-rows.result.now c.vertex_span-2.result c.in_ok-at.at.items
    (subst AreRows (sym c.rows-rows.ensures.rows) c.rows-rows.ensures.whole.rows) c.vertex_span-2.ensures c.in_ok-at.ensures
