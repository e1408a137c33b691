use Rattle.std.specs.Prelude.{All}
use Rattle.std.proofs.Common.{refl, sym, subst}
use Rattle.std.proofs.lemmas.List.Elements.{All-push}
use Rattle.solid_data.proofs.Members.{get_some}
use Rattle.solid_mend.specs.Mended.{AreTriedOf, shell_of_remedies}
use Rattle.solid_mend.proofs.FailingLemmas.{next_fails, next_keeps}
use Rattle.solid_mend.proofs.shells.put_shell.Goals as goal

pub returns-then-branch-clause-failing : goal.returns-then-branch-clause-failing
returns-then-branch-clause-failing c =
    λ are.
    let h = get_some c.args.solid.now.shells c.args.shell.0 c.requires.shell in
    next_keeps shell_of_remedies c.args.solid.now c.args.shell.0 h.0 c.args.found.now.items h.1 ((c.in_ok-keeps.ensures h.0 h.1).0 c.if-branch.true) are

pub returns-clause-failing : goal.returns-clause-failing
returns-clause-failing c =
    λ are.
    let h = get_some c.args.solid.now.shells c.args.shell.0 c.requires.shell in
    next_fails shell_of_remedies c.args.solid.now c.args.shell.0 h.0 c.args.found.now.items c.push.new.self.items
    (record { shell = c.args.shell; remedies = c.in_ok-remedies.remedies }) h.1
    (λ holds. let yes = (c.in_ok-keeps.ensures h.0 h.1).1 holds in let nope = c.if-branch.false in absurd cc) refl c.in_ok-push.ensures.items are

pub returns-clause-tried : goal.returns-clause-tried
returns-clause-tried c =
    λ all.
    subst (All (AreTriedOf c.args.solid.now c.args.known.now.geometry)) (sym c.in_ok-push.ensures.items)
    (All-push (AreTriedOf c.args.solid.now c.args.known.now.geometry) c.args.found.now.items
    (record { shell = c.args.shell; remedies = c.in_ok-remedies.remedies }) all c.in_ok-remedies.ensures)
