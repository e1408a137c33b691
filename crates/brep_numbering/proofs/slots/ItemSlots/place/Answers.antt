use Rattle.std.proofs.Common.{◌∙◌, ◌++◌, ◌∷◌, [], ap, sym, subst, slice_get, slice_index, rules}
use Rattle.brep_numbering.specs.Slots.{slot_in, slot_of, HasNoSlots}
use Rattle.brep_numbering.proofs.SlotSteps.{given_slots}
use Rattle.brep_numbering.proofs.slots.ItemSlots.place.Goals as goal

pub returns-clause-same : goal.returns-clause-same
returns-clause-same c l i =
    ap (λ s. slot_in (slice_get s (slice_index c.set.new.self l)) l i)
    (c.in_ok-push.ensures.items ∙ ap (λ e. c.self.inside.slots.items ++ (c.args.list, e) ∷ []) c.new.ensures)
    ∙ (given_slots c.self.inside.lists c.set.new.self c.self.inside.slots.items c.args.list.0
    (subst (λ s. HasNoSlots s c.args.list) (sym c.self.view_is) c.in_default.ensures.none)
    c.in_ok-set.ensures.others (c.in_ok-set.ensures.set ∙ (c.in_ok-end.ensures ∙ (c.len.ensures ∙ search rules))) c.args.list l i
    ∙ ap (λ s. slot_of s l i) c.self.view_is)
