use Rattle.std.proofs.Common.{refl}
use Rattle.shell_facts.proofs.LowSteps.{trees_within}
use Rattle.shell_facts.proofs.grouping.by_least.Goals as goal

pub grouped-requires-clause-within : goal.grouped-requires-clause-within
grouped-requires-clause-within c = rw c.in_ok-numbers.ensures.items (trees_within c.args.leasts.now _ c.requires.low refl refl)
