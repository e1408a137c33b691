use Rattle.std.proofs.Common.{◌∙◌, subst, sym, ap, ℕ, List, Bool, [], take}
use Rattle.std.proofs.lemmas.List.{take_more, take_all}
use Rattle.entry_references.specs.Layout.{Own}
use Rattle.solid_extract.specs.NewValues.{AreRenewed}
use Rattle.solid_extract.proofs.KeptValues.{renewed_fits}
use Rattle.solid_extract.proofs.new_values.renew_all.Goals as goal

pub cut-init : goal.cut-init
cut-init c =
    let own = c.args.own.now in
    subst (λ (ms : List Bool).
    AreRenewed c.args.renaming.now (record { count = own.count; pointers = own.pointers; cut = [] }) c.args.values.now ms c.rename_places.new.values)
    (sym c.as_slice-pointed.ensures.value)
    (subst (λ (ps : List ℕ).
    AreRenewed c.args.renaming.now (record { count = own.count; pointers = ps; cut = [] }) c.args.values.now c.rename_places.new.marks.items
    c.rename_places.new.values)
    (c.as_slice-pointers.ensures ∙ ap (λ (o : Own). o.pointers) c.own.view_is)
    (c.in_ok-rename_places.ensures {u = tt} own.count))

pub cut_in-requires : goal.cut_in-requires
cut_in-requires c =
    let own = c.args.own.now in
    renewed_fits c.args.renaming.now (record { count = own.count; pointers = own.pointers; cut = take c.cut.place-index c.as_slice-cut.result.now })
    c.args.values.now c.as_slice-pointed.result.now c.cut.values c.cut.invariant

pub cut-preserved : goal.cut-preserved
cut-preserved c =
    let own = c.args.own.now in
    subst (λ (ps : List ℕ).
    AreRenewed c.args.renaming.now (record { count = own.count; pointers = own.pointers; cut = ps }) c.args.values.now c.as_slice-pointed.result.now
    c.cut_in.new.values)
    (sym (take_more c.as_slice-cut.result.now c.cut.place-index 0 c.cut-test.true))
    (c.cut_in.ensures (record { count = own.count; pointers = own.pointers; cut = take c.cut.place-index c.as_slice-cut.result.now }) c.args.values.now
    c.cut.invariant)

pub returns : goal.returns
returns c =
    let own = c.args.own.now in
    let all = subst (λ (ps : List ℕ).
    AreRenewed c.args.renaming.now (record { count = own.count; pointers = own.pointers; cut = ps }) c.args.values.now c.as_slice-pointed.result.now
    c.cut.values)
    (take_all c.cut.place-index c.as_slice-cut.result.now c.cut-test.false
    ∙ (c.as_slice-cut.ensures ∙ ap (λ (o : Own). o.cut) c.own.view_is)) c.cut.invariant in
    all.are
