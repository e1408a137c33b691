use Rattle.std.proofs.Common.{◌≡◌, ◌++◌, ◌∙◌, ap, arith, subst}
use Rattle.std.specs.Prelude.{OnOk}
use Rattle.solid_data.proofs.Members.{get_some}
use Rattle.shell_facts.specs.PartTables.{ShellParts}
use Rattle.where_shells.proofs.ReachSteps.{reach_told, named_told}
use Rattle.where_shells.proofs.reach.put_reach.Goals as goal

pub put_reach_lines-requires : goal.put_reach_lines-requires
put_reach_lines-requires c = let h = get_some c.args.view.now.solid.now.shells c.args.view.now.at.0 c.requires.shell in ap (λ (t : ShellParts). t.solid)
    (c.in_ok-tables.ensures h.0 h.1)

pub returns-clause-text : goal.returns-clause-text
returns-clause-text c =
    let h = get_some c.args.view.now.solid.now.shells c.args.view.now.at.0 c.requires.shell in
    subst (λ text. OnOk c.put_reach_lines.result (c.put_reach_lines.new.page.out ≡ c.args.page.now.out ++ text))
    (reach_told c.args.view.now.listing c.args.view.now.file.now c.args.view.now.solid.now c.args.view.now.at.0 h.0 c.args.firsts.now
    c.args.unpaired.now c.in_ok-tables.tables
    c.apart_in-faults.result c.as_slice.result.now h.1
    (λ e. absurd (omega (arith, e, c.if-faults-eq0.false, c.apart_in-faults.ensures))) (c.in_ok-tables.ensures h.0 h.1) c.apart_in-faults.ensures
    (c.as_slice.ensures.value ∙ c.in_ok-parts.ensures))
    c.put_reach_lines.ensures.text

pub returns-clause-named : goal.returns-clause-named
returns-clause-named c =
    let h = get_some c.args.view.now.solid.now.shells c.args.view.now.at.0 c.requires.shell in
    subst (λ faces. OnOk c.put_reach_lines.result (c.put_reach_lines.new.page.named ≡ c.args.page.now.named ++ faces))
    (named_told c.args.view.now.listing c.args.view.now.solid.now c.args.view.now.at.0 h.0 c.args.firsts.now c.args.unpaired.now
    c.in_ok-tables.tables c.as_slice.result.now h.1
    (λ e. absurd (omega (arith, e, c.if-faults-eq0.false, c.apart_in-faults.ensures))) (c.in_ok-tables.ensures h.0 h.1)
    (c.as_slice.ensures.value ∙ c.in_ok-parts.ensures))
    c.put_reach_lines.ensures.named
