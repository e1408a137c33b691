use Rattle.std.proofs.Common.{sym, ◌∙◌}
use Rattle.solid_hints.proofs.ToldHints.{none_of_none}
use Rattle.solid_hints.proofs.hinted_shells.put_known.Goals as goal

pub returns-then-is_empty : goal.returns-then-is_empty
returns-then-is_empty c =
    none_of_none c.args.view.now.listing c.args.view.now.file.now c.args.view.now.solid.now c.args.shells.now c.args.out.now c.args.named.now
    (sym c.is_empty.ensures ∙ c.if-is_empty.true)
