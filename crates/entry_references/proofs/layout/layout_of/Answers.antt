use Rattle.std.proofs.Common.{◌≡◌, rules, to_z, of_z, w64}
use Rattle.entry_references.proofs.TableRows.{layout_some, layout_none}
use Rattle.entry_references.proofs.layout.layout_of.Goals as goal

pub returns-in-Some : goal.returns-in-Some
returns-in-Some c =
    let e = c.args.entry.now in
    let kind : to_z w64 (of_z w64 e.kind) ≡ e.kind = search rules in
    let form : to_z w64 (of_z w64 e.form) ≡ e.form = search rules in
    layout_some e _ _ c.is_other_property.result c.in-Some.forms c.in_form.result kind form c.is_other_property.ensures c.if-is_other_property.false
    c.in_form.ensures c.in-Some.ensures

pub returns-in-None : goal.returns-in-None
returns-in-None c =
    let e = c.args.entry.now in
    let kind : to_z w64 (of_z w64 e.kind) ≡ e.kind = search rules in
    layout_none e _ c.is_other_property.result kind c.is_other_property.ensures c.if-is_other_property.false c.in-None.ensures
