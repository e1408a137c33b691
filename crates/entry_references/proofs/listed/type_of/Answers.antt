use Rattle.std.proofs.Common.{◌≡◌, rules, to_z, of_z, w64, sym, ◌∙◌, ap}
use Rattle.brep_lists.specs.Record.{kind_of_type}
use Rattle.entry_references.proofs.NumberLists.{layout_known, layout_unknown, unlisted}
use Rattle.entry_references.proofs.listed.type_of.Goals as goal

pub returns-in-Some-layout_of : goal.returns-in-Some-layout_of
returns-in-Some-layout_of c =
    let e = c.args.entry.now in
    let is : to_z w64 (of_z w64 e.kind) ≡ e.kind = search rules in (
      sym (c.of_type.ensures.is ∙ ap kind_of_type is) ∙ c.in_default.is,
      layout_known e c.layout_of.result c.in-Some-layout_of.layout c.layout_of.ensures
          c.in-Some-layout_of.is,
    )

pub returns-in-None : goal.returns-in-None
returns-in-None c =
    let e = c.args.entry.now in
    let is : to_z w64 (of_z w64 e.kind) ≡ e.kind = search rules in
    unlisted e (sym (c.of_type.ensures.is ∙ ap kind_of_type is) ∙ c.in_default.is) (layout_unknown e c.layout_of.result c.layout_of.ensures c.in-None.is)
