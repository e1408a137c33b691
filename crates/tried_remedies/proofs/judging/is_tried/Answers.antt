use Rattle.std.proofs.Common.{◌≡◌, rules, subst, sym}
use Rattle.edge_uses.specs.Before.{AreBelow}
use Rattle.tried_remedies.proofs.judging.is_tried.Goals as goal

pub passes_before-requires : goal.passes_before-requires
passes_before-requires c = let own : c.args.remedy.now.change.shell ≡ c.args.shell.number = search rules in subst
    (λ k. AreBelow c.args.solid.now k.0 c.args.shell.below) (sym own) c.requires.below
