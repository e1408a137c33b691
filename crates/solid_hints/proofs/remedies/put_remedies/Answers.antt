use Rattle.std.proofs.Common.{sym, ◌∙◌}
use Rattle.solid_hints.proofs.ToldHints.{nothing_named}
use Rattle.solid_hints.proofs.remedies.put_remedies.Goals as goal

pub returns-then-is_empty-clause-named : goal.returns-then-is_empty-clause-named
returns-then-is_empty-clause-named c =
    nothing_named c.args.view.now.listing c.args.view.now.solid.now c.args.remedies.now c.put_stuck.result c.args.named.now
    (sym c.is_empty.ensures ∙ c.if-is_empty.true)
