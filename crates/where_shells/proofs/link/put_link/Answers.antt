use Rattle.std.proofs.Common.{◌≡◌, ◌++◌, ◌∙◌, [], OnOk, rules, slice_get, subst}
use Rattle.where_shells.specs.Lines.{faces_in}
use Rattle.where_shells.proofs.Paragraphs.{link_told}
use Rattle.where_shells.proofs.link.put_link.Goals as goal

pub returns-clause-text : goal.returns-clause-text
returns-clause-text c =
    let v = c.args.view.now in
    let some : c.unlinked-vertices.result.now ≡ [] → ⊥ = search rules in
    let there : c.as_slice.result.now ≡ faces_in (slice_get c.args.view.now.solid.now.shells c.args.view.now.at.0) = search rules in
    subst (λ t. OnOk c.put_link_lines.result (c.put_link_lines.new.page.out ≡ c.args.page.now.out ++ t))
    (link_told v.listing v.file.now v.solid.now v.at.0 c.as_slice.result.now c.args.paired.now c.as_slice-2.result.now c.leasts-2.result.now
    c.args.linking.now.leasts c.unlinked-vertices.result.now c.args.linking.now.unlinked some there c.requires.rows
    (c.as_slice-2.ensures.value ∙ c.in_ok-places.ensures.places) c.leasts-2.ensures c.unlinked-vertices.ensures)
    c.put_link_lines.ensures.text
