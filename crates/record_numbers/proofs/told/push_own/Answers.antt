use Rattle.std.proofs.Common.{◌+◌, ◌<◌, ◌∙◌, sym, ap, arith, List, ℕ}
use Rattle.std.specs.Prelude.{option_copied}
use Rattle.entry_references.specs.EntrySets.{is_among}
use Rattle.entry_references.specs.Layout.{Own}
use Rattle.record_numbers.specs.Parts.{part_as, said_all}
use Rattle.record_numbers.proofs.PlaceMarks.{next_part, said_push}
use Rattle.record_numbers.proofs.told.push_own.Goals as goal

pub values-preserved : goal.values-preserved
values-preserved c =
    let i = c.values.i in
    let v = c.unwrap.result.now in
    let lt : c.values.i < c.args.own.now.count = omega (arith, c.values-test.true, c.min-count.ensures, ap (λ (o : Own). o.count) c.own.view_is) in
    next_part c.args.own.now c.args.values.now i v c.mark_at-is_pointer.result c.contains-is_cut.result (said_all c.args.parts.now.items)
    (said_all c.values.parts.items) (said_all c.push.new.self.items)
    (sym c.get.ensures.value ∙ ap option_copied c.unwrap.ensures)
    (c.mark_at-is_pointer.ensures ∙ c.requires.marked i lt)
    (c.contains-is_cut.ensures.value ∙ ap (λ (ps : List ℕ). is_among ps (i + 1)) (c.as_slice-cut.ensures ∙ ap (λ (o : Own). o.cut) c.own.view_is))
    c.values.invariant
    (said_push c.values.parts.items c.push.new.self.items c.part_of.result (part_as c.mark_at-is_pointer.result c.contains-is_cut.result v)
    c.in_ok-push.ensures.items c.part_of.ensures)
