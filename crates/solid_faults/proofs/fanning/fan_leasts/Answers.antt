use Rattle.std.proofs.Common.{◌≡◌, ◌∙◌, ap, sym, subst, length}
use Rattle.std.proofs.lemmas.Result.{IfOk-weaker}
use Rattle.edge_uses.specs.ShellRows.{ShellRows}
use Rattle.shell_components.specs.Components.{AreInside, AreComponents}
use Rattle.solid_faults.proofs.FanLemmas.{turns_inside, fans_of_labels}
use Rattle.solid_faults.proofs.fanning.fan_leasts.Goals as goal

pub components-requires-clause-inside : goal.components-requires-clause-inside
components-requires-clause-inside c =
    let count : c.len.result ≡ length c.args.paired.now.rows = c.len.ensures.count ∙ ap (λ (d : ShellRows). length d.rows) c.rows.ensures.rows in
    subst (λ n. AreInside c.as_slice.result.now n) (sym count)
    (subst (λ ps. AreInside ps (length c.args.paired.now.rows)) (sym c.as_slice.ensures.value)
    (turns_inside c.args.paired.now c.in_ok-pairs.pairs.items c.rows.ensures.whole c.in_ok-pairs.ensures))

pub returns : goal.returns
returns c =
    let count : c.len.result ≡ length c.args.paired.now.rows = c.len.ensures.count ∙ ap (λ (d : ShellRows). length d.rows) c.rows.ensures.rows in
    IfOk-weaker c.components.result _ _
    (λ leasts are. fans_of_labels c.args.paired.now c.in_ok-pairs.pairs.items leasts.items c.rows.ensures.whole c.in_ok-pairs.ensures
    (subst (λ ps. AreComponents ps (length c.args.paired.now.rows) leasts.items) c.as_slice.ensures.value
    (subst (λ n. AreComponents c.as_slice.result.now n leasts.items) count are))) c.components.ensures
