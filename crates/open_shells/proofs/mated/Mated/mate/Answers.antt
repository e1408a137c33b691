use Rattle.std.proofs.Common.{arith, sym, ap, subst, ◌∙◌, length, ◌<◌}
use Rattle.std.specs.Prelude.{Some, None}
use Rattle.std.proofs.lemmas.Option.{slice_get-get_or}
use Rattle.edge_uses.specs.ShellRows.{ShellRows}
use Rattle.open_shells.specs.Mating.{IsMateOf}
use Rattle.open_shells.proofs.mated.Mated.mate.Goals as goal

pub returns-in-Some : goal.returns-in-Some
returns-in-Some c =
    let low : c.args.r < length c.self.inside.mates.items =
    omega (arith, c.requires, c.self.invariant.each, ap (λ (d : ShellRows). length d.rows) c.self.view_is) in
    let at = slice_get-get_or c.self.inside.mates.items c.args.r c.index.result.now low ∙ ap Some (sym c.index.ensures ∙ c.in-Some.is) in
    subst (λ (d : ShellRows). IsMateOf d c.args.r (Some c.in-Some.mate)) c.self.view_is (c.self.invariant.mate c.args.r (Some c.in-Some.mate) at)

pub returns-in-None : goal.returns-in-None
returns-in-None c =
    let low : c.args.r < length c.self.inside.mates.items =
    omega (arith, c.requires, c.self.invariant.each, ap (λ (d : ShellRows). length d.rows) c.self.view_is) in
    let at = slice_get-get_or c.self.inside.mates.items c.args.r c.index.result.now low ∙ ap Some (sym c.index.ensures ∙ c.in-None.is) in
    subst (λ (d : ShellRows). IsMateOf d c.args.r None) c.self.view_is (c.self.invariant.mate c.args.r None at)
